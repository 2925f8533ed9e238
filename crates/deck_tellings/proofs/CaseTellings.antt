-- What an engine tells of cases, one behind the other.
use Rattle.std.proofs.Common.{◌≡◌, ◌∙◌, ap, sym, refl, subst, ℕ, suc, ◌+◌, ◌≤◌, List, [], ◌∷◌, ◌++◌, length, map, get_or, slice_set, add-one, append_assoc, Result, Ok, Err, OnOk, OnErr, arith}
use Rattle.std.specs.Prelude.{Vec}
use Rattle.std.proofs.lemmas.List.{append-nil}
use Rattle.deck_check.specs.Readings.{Says}
use Rattle.deck_lines.specs.Deck.{body_of}
use Rattle.deck_lines.specs.declared.statement.Statement.{Statement}
use Rattle.report_text.specs.Report.{case_text}
use Rattle.report_text.specs.declared.data.CaseReport.{CaseReport}
use Rattle.sim_engine.specs.Engine.{Work, raised}
use Rattle.sim_sweep.proofs.TogetherSteps.{together_none, together_then}
use Rattle.deck_tellings.specs.Accepted.{IsAccepted}
use Rattle.case_study.specs.Case.{IsReportOf}
use Rattle.deck_tellings.specs.Inner.{GoesOn, TellsBy, TellsByFirst}
use Rattle.case_study.specs.Inner.{HaveDetailed, OnlyDetails}
use Rattle.case_study.specs.Listings.{Tunnels, deck_tunnels}
use Rattle.deck_tellings.specs.Said.{AreCasesTold, IsCaseTold}
use Rattle.case_study.specs.Studies.{StudyIs}
use Rattle.deck_tellings.specs.Told.{AreJoined, Told, joined, nothing}
use Rattle.case_study.proofs.DetailSteps.{detailed_first, details_worked, with_idle}

-- ---- a text goes on

pub on_none : {Z : Type 0} (a b : Vec ℕ Z) → b.items ≡ a.items → GoesOn a b
on_none a b same = record { more = []; is = same ∙ sym (append-nil a.items) }

pub on_then : {Z : Type 0} (a b c : Vec ℕ Z) → GoesOn a b → GoesOn b c → GoesOn a c
on_then a b c one other = record {
  more = one.more ++ other.more;
  is = other.is ∙ ap (λ (t : List ℕ). t ++ other.more) one.is ∙ append_assoc a.items one.more other.more;
}

-- a text that was appended whole or not at all
pub on_written : {T E Z : Type 0} (r : Result T E) (a b : Vec ℕ Z) (text : List ℕ) → OnOk r (b.items ≡ a.items ++ text) → OnErr r (b.items ≡ a.items) → GoesOn a b
on_written (Ok x) a b text is kept = record { more = text; is = is }
on_written (Err e) a b text is kept = on_none a b kept

pub on_told : {Z : Type 0} (Is : Told → Type 0) (w v : Work) (a b : Vec ℕ Z) → TellsBy Is w v a b → GoesOn a b
on_told Is w v a b tells = record { more = tells.told.text; is = tells.text }

-- ---- tellings

-- nothing is told of no case
pub none_told : {Z : Type 0} (d : Says) (w : Work) (a : Vec ℕ Z) → TellsBy (AreCasesTold d 0) w w a a
none_told d w a = record { told = nothing; is_told = refl; text = sym (append-nil a.items); nos = refl; worked = together_none (w ∷ []) }

pub told_then : {Z : Type 0} (One Other : Told → Type 0) (u v w : Work) (a b c : Vec ℕ Z) → TellsBy One u v a b → TellsBy Other v w b c → TellsBy (AreJoined One Other) u w a c
told_then One Other u v w a b c one other = record {
  told = joined one.told other.told;
  is_told = record { one = one.told; other = other.told; is_one = one.is_told; is_other = other.is_told; is = refl };
  text = other.text ∙ ap (λ (t : List ℕ). t ++ other.told.text) one.text ∙ append_assoc a.items one.told.text other.told.text;
  nos = omega (arith, one.nos, other.nos);
  worked = together_then [] [] one.told.details other.told.details (u ∷ []) (v ∷ []) (w ∷ []) one.worked other.worked;
}

-- what is told of the case of a study
pub told_of_study : {Z : Type 0} (s : StudyIs) (deck : List Statement) (c : ℕ) (w v : Work) (a b : Vec ℕ Z) → s.deck ≡ deck → s.case ≡ c → TellsBy (IsCaseTold (body_of s.deck) s.case) w v a b
    → TellsBy (IsCaseTold (body_of deck) c) w v a b
told_of_study s deck c w v a b of_deck of_case tells =
    subst (λ (n : ℕ). TellsBy (IsCaseTold (body_of deck) n) w v a b) of_case (subst (λ (d : List Statement). TellsBy (IsCaseTold (body_of d) s.case) w v a b) of_deck tells)

-- one case more
pub cases_more : {Z : Type 0} (d : Says) (c : ℕ) (u v w : Work) (a b e : Vec ℕ Z) → TellsBy (AreCasesTold d c) u v a b → TellsBy (IsCaseTold d (c + 1)) v w b e → TellsBy (AreCasesTold d (c + 1)) u w a e
cases_more d c u v w a b e before one =
    let last = subst (λ (n : ℕ). TellsBy (IsCaseTold d n) v w b e) (add-one c) one in
    subst (λ (n : ℕ). TellsBy (AreCasesTold d n) u w a e) (sym (add-one c)) (told_then (AreCasesTold d c) (IsCaseTold d (suc c)) u v w a b e before last)

-- a case is told by its report
pub case_told : {Z : Type 0} (d : Says) (c : ℕ) (tunnels : Tunnels) (report : CaseReport) (w v : Work) (a b : Vec ℕ Z) (n : ℕ) → n ≡ c → tunnels ≡ deck_tunnels d c → IsReportOf d c tunnels report
    → IsAccepted d c (case_text c report) → b.items ≡ a.items ++ case_text n report → v.detailed ≡ raised (length report.years) w.detailed → OnlyDetails w v → TellsBy (IsCaseTold d c) w v a b
case_told d c tunnels report w v a b n same own is accepted text detailed details = record {
  told = record { text = case_text c report; details = length report.years; nos = 0 };
  is_told = record { report = report; is_of = subst (λ (t : Tunnels). IsReportOf d c t report) own is; text = refl; details = refl; nos = refl; accepted = accepted };
  text = subst (λ (k : ℕ). b.items ≡ a.items ++ case_text k report) same text;
  nos = refl;
  worked = details_worked (length report.years) w v detailed details;
}

pub detailed_of : {Z : Type 0} (Is : Told → Type 0) (w v : Work) (a b : Vec ℕ Z) → TellsBy Is w v a b → HaveDetailed (w ∷ []) (v ∷ [])
detailed_of Is w v a b tells = record { years = tells.told.details; worked = tells.worked }

-- the first of some engines tells, and the others do nothing
pub told_by_first : {X Z : Type 0} (Is : Told → Type 0) (work : X → Work) (es : List X) (d f : X) (a b : Vec ℕ Z) → 1 ≤ length es → TellsBy Is (work (get_or es 0 d)) (work f) a b
    → TellsByFirst Is work es (slice_set es 0 f) a b
told_by_first Is work [] d f a b some tells = absurd (omega (arith, some))
told_by_first Is work (e ∷ es) d f a b some tells = record {
  told = tells.told;
  is_told = tells.is_told;
  text = tells.text;
  nos = tells.nos;
  worked = with_idle tells.told.details (work e) (work f) (map work es) tells.worked;
}

pub detailed_by_first : {X : Type 0} (work : X → Work) (es : List X) (d f : X) → 1 ≤ length es → HaveDetailed (work (get_or es 0 d) ∷ []) (work f ∷ []) → HaveDetailed (map work es) (map work (slice_set es 0 f))
detailed_by_first work [] d f some h = absurd (omega (arith, some))
detailed_by_first work (e ∷ es) d f some h = detailed_first (work e) (work f) (map work es) h
