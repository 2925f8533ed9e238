-- What lines do to a session: those that ask for no key, a PLAN, and an ENDCHECK.
use Rattle.std.proofs.Common.{◌≡◌, ◌∙◌, ℕ, ◌+◌, List, [], ◌++◌, ◌⊎◌, inl, inr, length, true, false, Option, Some, None, ap, refl, subst, sym, arith, append-nil}
use Rattle.std.specs.Prelude.{Vec}
use Rattle.deck_lines.specs.Deck.{body_of, put, without}
use Rattle.deck_lines.specs.declared.head.Head.{Head}
use Rattle.deck_lines.specs.declared.line.CertLine.{CertLine}
use Rattle.deck_lines.specs.declared.line.Line.{Line}
use Rattle.deck_lines.specs.declared.line.Line.TheVariants as lines
use Rattle.deck_lines.specs.declared.statement.Statement.{Statement}
use Rattle.report_text.specs.Lines.{keys_line}
use Rattle.report_text.specs.Verdicts.{verdict_line}
use Rattle.report_text.specs.declared.verdicts.Judged.{Judged}
use Rattle.sim_engine.specs.Engine.{Run, Work}
use Rattle.deck_tellings.specs.Checks.{IsChecked, IsJudged, Open, nos_of, with_line}
use Rattle.wasp_session.specs.Inner.{TellsPlan}
use Rattle.deck_tellings.specs.Checks.{DemandsAtEnd, DemandsChecked, IsCheckedAtEnd}
use Rattle.deck_tellings.specs.Said.{IsCheckTold}
use Rattle.deck_tellings.specs.Memory.{MemoryIs}
use Rattle.wasp_session.specs.State.{State, behind}
use Rattle.wasp_session.specs.Steps.{Does, DoesLine, IsTakenAt, line_asks, line_told}
use Rattle.deck_tellings.specs.Learning.{Learns}
use Rattle.deck_tellings.specs.Told.{Told, nothing, plain}
use Rattle.deck_tellings.proofs.LearnSteps.{learns_none}

-- ---- states

same_state : (s t : State) → s.command ≡ t.command → s.deck ≡ t.deck → s.memory ≡ t.memory → s.plans ≡ t.plans → s.checks ≡ t.checks → s.opened ≡ t.opened → s.nos ≡ t.nos → s.refused ≡ t.refused → s ≡ t
same_state s t command deck memory plans checks opened nos refused = λ i. record {
  command = command i;
  deck = deck i;
  memory = memory i;
  plans = plans i;
  checks = checks i;
  opened = opened i;
  nos = nos i;
  refused = refused i;
}

-- ---- a line that asks for no key

-- it tells a text for which nothing is detailed
quiet : {X Z : Type 0} (Is : Told → Type 0) (Taken : Type 0) (Asks : Run → Type 0) (after s t : State) (work : X → Work) (es : List X) (said said_now : Vec ℕ Z) (text : List ℕ)
    → Is (plain text) → (Taken → ⊥) → ((key : Run) → Asks key → ⊥) → said_now.items ≡ said.items ++ text → t ≡ after → after.memory ≡ s.memory → after.nos ≡ s.nos
    → Does Is Taken Asks after s t work es es said said_now
quiet Is Taken Asks after s t work es said said_now text is refused none more same memory nos =
    let here : t.memory ≡ s.memory = ap (λ (z : State). z.memory) same ∙ memory in
    let m : after.memory ≡ t.memory = ap (λ (z : State). z.memory) (sym same) in
    let n : after.nos ≡ s.nos + 0 = omega (arith, nos) in
    let as_said : after ≡ record after { memory = t.memory; nos = s.nos + 0 } = λ i. record after { memory = m i; nos = n i } in
    record {
      count = 0;
      tells = record {
        told = plain text;
        is_told = is;
        text = more;
        nos = refl;
        learns = subst (λ (z : MemoryIs). Learns Taken Asks (body_of s.deck) s.memory z work es es 0) (sym here) (learns_none Taken Asks (body_of s.deck) s.memory work es refused none);
      };
      state = same ∙ as_said;
    }

-- a line that tells nothing
pub quiet_line : {X Z : Type 0} (line l : Line) (s t : State) (work : X → Work) (es : List X) (said : Vec ℕ Z) → line ≡ l → line_told s l nothing → (IsTakenAt s l → ⊥) → ((key : Run) → line_asks s l key → ⊥)
    → t ≡ behind s l → DoesLine line s t work es es said said
quiet_line line l s t work es said is told taken asks at =
    subst (λ (z : Line). DoesLine z s t work es es said said) (sym is)
    (quiet (line_told s l) (IsTakenAt s l) (line_asks s l) (behind s l) s t work es said said [] told taken asks (sym (append-nil said.items)) at refl refl)

pub same_line : {X Z : Type 0} (line l : Line) (s t : State) (work : X → Work) (es fs : List X) (said said_now : Vec ℕ Z) → line ≡ l → DoesLine l s t work es fs said said_now → DoesLine line s t work es fs said said_now
same_line line l s t work es fs said said_now is does = subst (λ (z : Line). DoesLine z s t work es fs said said_now) (sym is) does

-- the numbers of PLAN and CHECK lines stay
pub at_set : (s : State) (st : Statement) → record s { deck = put s.deck st } ≡ behind s (lines.Set st)
at_set s st = let p : s.plans ≡ s.plans + 0 = omega arith in let q : s.checks ≡ s.checks + 0 = omega arith in λ i. record s { deck = put s.deck st; plans = p i; checks = q i }

pub at_drop : (s : State) (head : Head) → record s { deck = without s.deck head } ≡ behind s (lines.Drop head)
at_drop s head = let p : s.plans ≡ s.plans + 0 = omega arith in let q : s.checks ≡ s.checks + 0 = omega arith in λ i. record s { deck = without s.deck head; plans = p i; checks = q i }

pub at_cert : (s : State) (l : CertLine) → record s { opened = with_line s.opened l } ≡ behind s (lines.Cert l)
at_cert s l = let p : s.plans ≡ s.plans + 0 = omega arith in let q : s.checks ≡ s.checks + 0 = omega arith in λ i. record s { plans = p i; checks = q i; opened = with_line s.opened l }

pub at_check : (s : State) (c : ℕ) → record s { checks = s.checks + 1; opened = Some (record { case = c; certificate = [] }) } ≡ behind s (lines.Check c)
at_check s c = let p : s.plans ≡ s.plans + 0 = omega arith in λ i. record s { plans = p i; checks = s.checks + 1; opened = Some (record { case = c; certificate = [] }) }

at_end : (s : State) → s ≡ behind s lines.End
at_end s = let p : s.plans ≡ s.plans + 0 = omega arith in let q : s.checks ≡ s.checks + 0 = omega arith in λ i. record s { plans = p i; checks = q i }

at_blank : (s : State) → s ≡ behind s lines.Blank
at_blank s = let p : s.plans ≡ s.plans + 0 = omega arith in let q : s.checks ≡ s.checks + 0 = omega arith in λ i. record s { plans = p i; checks = q i }

at_skip : (s : State) → s ≡ behind s lines.Skip
at_skip s = let p : s.plans ≡ s.plans + 0 = omega arith in let q : s.checks ≡ s.checks + 0 = omega arith in λ i. record s { plans = p i; checks = q i }

-- a blank line, or one that is skipped
pub blank_line : {X Z : Type 0} (line : Line) (s : State) (work : X → Work) (es : List X) (said : Vec ℕ Z) → (line ≡ lines.Blank) ⊎ (line ≡ lines.Skip) → DoesLine line s s work es es said said
blank_line line s work es said (inl is) = quiet_line line lines.Blank s s work es said is refl (λ none. none) (λ key none. none) (at_blank s)
blank_line line s work es said (inr is) = quiet_line line lines.Skip s s work es said is refl (λ none. none) (λ key none. none) (at_skip s)

-- END tells the number of the keys
pub end_line : {X Z : Type 0} (line : Line) (s t : State) (work : X → Work) (es : List X) (said said_now : Vec ℕ Z) → line ≡ lines.End → said_now.items ≡ said.items ++ keys_line (length s.memory.shelf.kept) → t ≡ s
    → DoesLine line s t work es es said said_now
end_line line s t work es said said_now is text same =
    subst (λ (z : Line). DoesLine z s t work es es said said_now) (sym is)
    (quiet (line_told s lines.End) (IsTakenAt s lines.End) (line_asks s lines.End) (behind s lines.End) s t work es said said_now (keys_line (length s.memory.shelf.kept)) refl (λ none. none) (λ key none. none) text (same ∙ at_end s) refl refl)

-- ---- a PLAN

-- what a session tells as its last PLAN
abbrev PlanTells : {X Z : Type 0} → State → MemoryIs → (X → Work) → List X → List X → Vec ℕ Z → Vec ℕ Z → Type 0
PlanTells z m work es fs said said_now = TellsPlan z.command z.plans z.deck z.memory m work es fs said said_now

-- behind the flag, as the next PLAN
pub plan_does : {X Z : Type 0} (s mid t u : State) (work : X → Work) (es fs : List X) (said said_now : Vec ℕ Z) → mid ≡ record s { plans = s.plans + 1; refused = true } → t ≡ record mid { memory = t.memory }
    → u ≡ record t { refused = false } → s.refused ≡ false
    → PlanTells mid t.memory work es fs said said_now
    → DoesLine lines.Plan s u work es fs said said_now
plan_does s mid t u work es fs said said_now of_mid of_t of_u unflagged tells =
    let memory : t.memory ≡ u.memory = sym (ap (λ (z : State). z.memory) of_u) in
    let from_s : PlanTells (record s { plans = s.plans + 1; refused = true }) t.memory work es fs said said_now = subst (λ (z : State). PlanTells z t.memory work es fs said said_now) of_mid tells in
    let c : s.checks ≡ s.checks + 0 = omega arith in
    let n : s.nos ≡ s.nos + 0 = omega arith in
    record {
      count = 0;
      tells = subst (λ (m : MemoryIs). PlanTells (record s { plans = s.plans + 1; refused = true }) m work es fs said said_now) memory from_s;
      state = same_state u (record s { memory = u.memory; plans = s.plans + 1; checks = s.checks + 0; nos = s.nos + 0 })
          (ap (λ (z : State). z.command) of_u ∙ ap (λ (z : State). z.command) of_t ∙ ap (λ (z : State). z.command) of_mid)
          (ap (λ (z : State). z.deck) of_u ∙ ap (λ (z : State). z.deck) of_t ∙ ap (λ (z : State). z.deck) of_mid)
          refl
          (ap (λ (z : State). z.plans) of_u ∙ ap (λ (z : State). z.plans) of_t ∙ ap (λ (z : State). z.plans) of_mid)
          (ap (λ (z : State). z.checks) of_u ∙ ap (λ (z : State). z.checks) of_t ∙ ap (λ (z : State). z.checks) of_mid ∙ c)
          (ap (λ (z : State). z.opened) of_u ∙ ap (λ (z : State). z.opened) of_t ∙ ap (λ (z : State). z.opened) of_mid)
          (ap (λ (z : State). z.nos) of_u ∙ ap (λ (z : State). z.nos) of_t ∙ ap (λ (z : State). z.nos) of_mid ∙ n)
          (ap (λ (z : State). z.refused) of_u ∙ sym unflagged);
    }

-- ---- an ENDCHECK

-- of no open CHECK
pub none_does : {X Z : Type 0} (s t : State) (work : X → Work) (es : List X) (said : Vec ℕ Z) → s.opened ≡ None → t ≡ record s { opened = None } → DoesLine lines.EndCheck s t work es es said said
none_does s t work es said none same =
    let p : s.plans ≡ s.plans + 0 = omega arith in
    let q : s.checks ≡ s.checks + 0 = omega arith in
    let as_said : record s { opened = None } ≡ behind s lines.EndCheck = λ i. record s { plans = p i; checks = q i; opened = None } in
    subst (λ (o : Option Open). Does (IsCheckTold (body_of s.deck) s.checks o) (IsCheckedAtEnd (body_of s.deck) o) (DemandsAtEnd (body_of s.deck) o) (behind s lines.EndCheck) s t work es es said said) (sym none)
    (quiet (λ told. told ≡ nothing) (IsCheckedAtEnd (body_of s.deck) None) (DemandsAtEnd (body_of s.deck) None) (behind s lines.EndCheck) s t work es said said [] refl (λ n. n) (λ key n. n) (sym (append-nil said.items)) (same ∙ as_said) refl refl)

-- of this one
pub verdict_does : {X Z : Type 0} (s t : State) (o : Open) (judged : Judged) (case nos : ℕ) (m n : MemoryIs) (work : X → Work) (es fs : List X) (said said_now : Vec ℕ Z) → s.opened ≡ Some o → m ≡ s.memory → n ≡ t.memory
    → case ≡ o.case → nos ≡ nos_of judged → IsJudged (body_of s.deck) o judged → Learns (IsChecked (body_of s.deck) o) (DemandsChecked (body_of s.deck) o) (body_of s.deck) m n work es fs 0
    → said_now.items ≡ said.items ++ verdict_line s.checks case judged → t ≡ record s { memory = t.memory; opened = None; nos = s.nos + nos } → DoesLine lines.EndCheck s t work es fs said said_now
verdict_does s t o judged case nos m n work es fs said said_now some before now of_case of_nos is l text same =
    let d = body_of s.deck in
    let from : Learns (IsChecked d o) (DemandsChecked d o) d s.memory n work es fs 0 = subst (λ (x : MemoryIs). Learns (IsChecked d o) (DemandsChecked d o) d x n work es fs 0) before l in
    let learnt : Learns (IsChecked d o) (DemandsChecked d o) d s.memory t.memory work es fs 0 = subst (λ (x : MemoryIs). Learns (IsChecked d o) (DemandsChecked d o) d s.memory x work es fs 0) now from in
    let p : s.plans ≡ s.plans + 0 = omega arith in
    let q : s.checks ≡ s.checks + 0 = omega arith in
    let k : s.nos + nos ≡ s.nos + nos_of judged = ap (λ (x : ℕ). s.nos + x) of_nos in
    let as_said : record s { memory = t.memory; opened = None; nos = s.nos + nos } ≡ record s { memory = t.memory; plans = s.plans + 0; checks = s.checks + 0; opened = None; nos = s.nos + nos_of judged } =
    λ i. record s { memory = t.memory; plans = p i; checks = q i; opened = None; nos = k i } in
    subst (λ (z : Option Open). Does (IsCheckTold d s.checks z) (IsCheckedAtEnd d z) (DemandsAtEnd d z) (behind s lines.EndCheck) s t work es fs said said_now) (sym some)
    (record {
      count = nos_of judged;
      tells = record {
        told = record { text = verdict_line s.checks o.case judged; details = 0; nos = nos_of judged };
        is_told = record { judged = judged; is_of = is; is = refl };
        text = text ∙ ap (λ (c : ℕ). said.items ++ verdict_line s.checks c judged) of_case;
        nos = refl;
        learns = learnt;
      };
      state = same ∙ as_said;
    })

-- the same behind the flag, of the session as its fields say it
pub none_at : {X Z : Type 0} (s v : State) (o : Option Open) (work : X → Work) (es : List X) (said : Vec ℕ Z) → v ≡ s → v.opened ≡ None → o ≡ None → DoesLine lines.EndCheck s (record v { opened = o }) work es es said said
none_at s v o work es said is none closed =
    subst (λ (z : State). DoesLine lines.EndCheck z (record v { opened = o }) work es es said said) is
    (none_does v (record v { opened = o }) work es said none (λ i. record v { opened = closed i }))

pub verdict_at : {X Z : Type 0} (s v : State) (p : Open) (o : Option Open) (judged : Judged) (case nos : ℕ) (n : MemoryIs) (work : X → Work) (es fs : List X) (said said_now : Vec ℕ Z) → v ≡ s → v.opened ≡ Some p → o ≡ None
    → v.refused ≡ false → case ≡ p.case → nos ≡ nos_of judged → IsJudged (body_of v.deck) p judged → Learns (IsChecked (body_of v.deck) p) (DemandsChecked (body_of v.deck) p) (body_of v.deck) v.memory n work es fs 0
    → said_now.items ≡ said.items ++ verdict_line v.checks case judged → DoesLine lines.EndCheck s (record v { memory = n; opened = o; nos = v.nos + nos; refused = false }) work es fs said said_now
verdict_at s v p o judged case nos n work es fs said said_now is some closed unflagged of_case of_nos is_judged l text =
    let flag : false ≡ v.refused = sym unflagged in
    subst (λ (z : State). DoesLine lines.EndCheck z (record v { memory = n; opened = o; nos = v.nos + nos; refused = false }) work es fs said said_now) is
    (verdict_does v (record v { memory = n; opened = o; nos = v.nos + nos; refused = false }) p judged case nos v.memory n work es fs said said_now some refl refl of_case of_nos is_judged l text
    (λ i. record v { memory = n; opened = closed i; nos = v.nos + nos; refused = flag i }))
