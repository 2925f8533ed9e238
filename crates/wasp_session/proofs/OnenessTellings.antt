-- What is told of lines is one, and begins with what is told of the first of them.
use Rattle.std.proofs.Common.{◌≡◌, ℕ, zero, suc, ◌+◌, List, [], ◌∷◌, ◌++◌, append_assoc, length, Option, Some, None, sym, ap, ◌∙◌, refl, subst, inl, inr}
use Rattle.std.proofs.lemmas.List.{append-nil}
use Rattle.deck_check.specs.Readings.{Says, cases}
use Rattle.deck_lines.specs.Deck.{deck_at}
use Rattle.deck_lines.specs.declared.line.Line.{Line}
use Rattle.deck_lines.specs.declared.line.Line.TheVariants as lines
use Rattle.report_text.specs.Lines.{heading, keys_line}
use Rattle.report_text.specs.Refusals.{refusal_line}
use Rattle.report_text.specs.Report.{case_text}
use Rattle.report_text.specs.Verdicts.{verdict_line}
use Rattle.report_text.specs.declared.data.CaseReport.{CaseReport}
use Rattle.report_text.specs.declared.refusals.Refusal.{Refusal}
use Rattle.report_text.specs.declared.verdicts.Judged.{Judged}
use Rattle.tunnel_configs.specs.Listed.{ListingsAreOne}
use Rattle.wasp_session.proofs.OnenessChecks.{one_judgement}
use Rattle.wasp_session.proofs.OnenessKeys.{one_key_list}
use Rattle.case_study.proofs.OnenessReports.{one_refusal, one_report}
use Rattle.wasp_session.proofs.OnenessRanks.{best_one}
use Rattle.wasp_session.proofs.OnenessRounds.{search_one}
use Rattle.wasp_session.proofs.TellSteps.{both_are, joined_assoc, joined_one, nothing_joined, same_told}
use Rattle.deck_tellings.specs.Checks.{Open, check_count, nos_of, open_at}
use Rattle.case_study.specs.Listings.{deck_tunnels}
use Rattle.wasp_session.specs.Oneness.{TellingOfAFront, TellingsAreOne}
use Rattle.deck_tellings.specs.Said.{AreCasesTold, IsCaseTold, IsCheckTold, IsDeckTold}
use Rattle.wasp_session.specs.Tasks.{AreToldAfter, IsEndTold, IsLineTold, Task, plan_count, task_of}
use Rattle.deck_tellings.specs.Told.{Told, joined, nothing, plain}
use Rattle.wasp_session.specs.declared.command.Command.{Command}
use Rattle.wasp_session.specs.declared.command.Command.TheVariants as commands

-- ---- a PLAN

case_one : ListingsAreOne → (d : Says) (c : ℕ) (a b : Told) → IsCaseTold d c a → IsCaseTold d c b → a ≡ b
case_one one d c a b x y =
    let same : x.report ≡ y.report = one_report one d c (deck_tunnels d c) x.report y.report x.is_of y.is_of in
    same_told a b
    (x.text ∙ (ap (λ (r : CaseReport). case_text c r) same ∙ sym y.text))
    (x.details ∙ (ap (λ (r : CaseReport). length r.years) same ∙ sym y.details))
    (x.nos ∙ sym y.nos)

cases_one : ListingsAreOne → (d : Says) (c : ℕ) (a b : Told) → AreCasesTold d c a → AreCasesTold d c b → a ≡ b
cases_one one d zero a b x y = x ∙ sym y
cases_one one d (suc c) a b x y = joined_one (AreCasesTold d c) (IsCaseTold d (suc c)) a b (cases_one one d c) (case_one one d (suc c)) x y

deck_one : ListingsAreOne → (d : Says) (a b : Told) → IsDeckTold d a → IsDeckTold d b → a ≡ b
deck_one one d a b (inl x) (inl y) = x.is ∙ (ap (λ (r : Refusal). plain (refusal_line r)) ((one_refusal one).one d x.refusal y.refusal x.is_of y.is_of) ∙ sym y.is)
deck_one one d a b (inl x) (inr y) = absurd ((one_refusal one).apart d x.refusal x.is_of y.taken)
deck_one one d a b (inr x) (inl y) = absurd ((one_refusal one).apart d y.refusal y.is_of x.taken)
deck_one one d a b (inr x) (inr y) = cases_one one d (cases d) a b x.cases y.cases

plan_one : ListingsAreOne → (command : Command) (n : ℕ) (d : Says) (a b : Told) → (task_of command).tells n d a → (task_of command).tells n d b → a ≡ b
plan_one one commands.Plan n d a b x y = joined_one (λ head. head ≡ plain (heading n)) (IsDeckTold d) a b (both_are (plain (heading n))) (deck_one one d) x y
plan_one one commands.Check n d a b x y = x ∙ sym y
plan_one one commands.Search n d a b x y = search_one one n d a b x y
plan_one one (commands.Best k) n d a b x y = best_one one k n d a b x y

-- ---- a CHECK, and the end

check_one : ListingsAreOne → (d : Says) (n : ℕ) (o : Option Open) (a b : Told) → IsCheckTold d n o a → IsCheckTold d n o b → a ≡ b
check_one one d n None a b x y = x ∙ sym y
check_one one d n (Some o) a b x y =
    x.is ∙ (ap (λ (j : Judged). record { text = verdict_line n o.case j; details = 0; nos = nos_of j }) (one_judgement one d o x.judged y.judged x.is_of y.is_of) ∙ sym y.is)

end_one : (command : Command) (before : List Line) (a b : Told) → IsEndTold (task_of command) before a → IsEndTold (task_of command) before b → a ≡ b
end_one command before a b x y =
    let many = (one_key_list command before x.keys y.keys x.are_keys y.are_keys).many in
    x.is ∙ (ap (λ (n : ℕ). plain (keys_line n)) many ∙ sym y.is)

-- ---- lines

line_one : ListingsAreOne → (command : Command) (before : List Line) (line : Line) (a b : Told)
    → IsLineTold (task_of command) before line a → IsLineTold (task_of command) before line b → a ≡ b
line_one one command before lines.Plan a b x y = plan_one one command (plan_count before + 1) (deck_at before) a b x y
line_one one command before lines.EndCheck a b x y = check_one one (deck_at before) (check_count before) (open_at before) a b x y
line_one one command before lines.End a b x y = end_one command before a b x y
line_one one command before lines.Blank a b x y = x ∙ sym y
line_one one command before (lines.Set s) a b x y = x ∙ sym y
line_one one command before (lines.Drop h) a b x y = x ∙ sym y
line_one one command before (lines.Check c) a b x y = x ∙ sym y
line_one one command before (lines.Cert l) a b x y = x ∙ sym y
line_one one command before lines.Skip a b x y = x ∙ sym y

after_one : ListingsAreOne → (command : Command) (before ls : List Line) (a b : Told)
    → AreToldAfter (task_of command) before ls a → AreToldAfter (task_of command) before ls b → a ≡ b
after_one one command before [] a b x y = x ∙ sym y
after_one one command before (line ∷ ls) a b x y =
    joined_one (IsLineTold (task_of command) before line) (AreToldAfter (task_of command) (before ++ line ∷ []) ls) a b
    (line_one one command before line) (after_one one command (before ++ line ∷ []) ls) x y

pub one_telling : ListingsAreOne → TellingsAreOne
one_telling one command ls a b x y = after_one one command [] ls a b x y

-- ---- the first lines

record Splits (task : Task) (before first behind : List Line) (told : Told) : Type 0 where
  front : Told
  is_front : AreToldAfter task before first front
  rest : Told
  is_rest : AreToldAfter task (before ++ first) behind rest
  is : told ≡ joined front rest

splits : (task : Task) (before first behind : List Line) (told : Told) → AreToldAfter task before (first ++ behind) told → Splits task before first behind told
splits task before [] behind told t = record {
  front = nothing;
  is_front = refl;
  rest = told;
  is_rest = rw (append-nil before) t;
  is = sym (nothing_joined told);
}
splits task before (line ∷ first) behind told t =
    let s = splits task (before ++ line ∷ []) first behind t.other t.is_other in
    record {
      front = joined t.one s.front;
      is_front = record { one = t.one; other = s.front; is_one = t.is_one; is_other = s.is_front; is = refl };
      rest = s.rest;
      is_rest = subst (λ (ls : List Line). AreToldAfter task ls behind s.rest) (append_assoc before (line ∷ []) first) s.is_rest;
      is = t.is ∙ (ap (λ (x : Told). joined t.one x) s.is ∙ sym (joined_assoc t.one s.front s.rest));
    }

pub front_told : TellingOfAFront
front_told command first behind told t =
    let s = splits (task_of command) [] first behind told t in
    record { front = s.front; is_front = s.is_front; rest = s.rest; is_rest = s.is_rest; is = s.is }
