-- Reading fields one after the other, as a loop does.
use Rattle.std.proofs.Common.{◌≡◌, ℕ, suc, ◌+◌, ◌-◌, ◌<◌, ◌≤◌, List, [], ◌∷◌, length, drop, Result, Ok, Err, refl, sym, ap, ◌∙◌, arith}
use Rattle.std.proofs.lemmas.List.{drop_more}
use Rattle.std.proofs.lemmas.Bool.{ne_eqb, eq-eqb}
use Rattle.deck_lines.specs.declared.fault.LineFault.{LineFault}
use Rattle.deck_lines.specs.declared.fault.LineKind.TheVariants as faults
use Rattle.deck_lines.specs.declared.fault.LineError.{LineError}
use Rattle.deck_lines.specs.declared.fault.LineError.TheVariants as errors
use Rattle.deck_lines.specs.declared.form.Kind.{Kind}
use Rattle.deck_lines.specs.declared.form.Kind.TheVariants as kinds
use Rattle.deck_lines.specs.Words.{Piece}
use Rattle.deck_lines.specs.LineFault.{◌>>=◌, Fails}
use Rattle.deck_lines.specs.LineFault.{fault}
use Rattle.deck_lines.specs.Statements.{fields_onto, groups_onto}

-- where a field is due and no word is left
pub fields_short : (before : List ℕ) (end : ℕ) (ks : List Kind) (i : ℕ) (ws : List Piece) (total : Result (List ℕ × List Piece) LineFault) → i < length ks → ws ≡ []
    → fields_onto before end (drop i ks) ws ≡ total → total ≡ Err (fault faults.Count end)
unfolding fields_onto
fields_short before end ks i ws total lt none so_far = sym so_far ∙ rw (none, drop_more ks i (kinds.Number 0 0) lt) refl

-- ---- groups

pub groups_short : (before : List ℕ) (end : ℕ) (ks : List Kind) (least most done : ℕ) (ws : List Piece) (total : Result (List ℕ) LineFault) → done < most → ws ≡ [] → done < least
    → groups_onto before end ks (least - done) (most - done) ws ≡ total → total ≡ Err (fault faults.Count end)
unfolding groups_onto
groups_short before end ks least most done ws total lt none few so_far =
    let k : most - done ≡ suc (most - done - 1) = omega arith in
    sym so_far ∙ rw (none, k, ne_eqb (least - done) 0 (λ e. omega (arith, e))) refl

pub groups_enough : (before : List ℕ) (end : ℕ) (ks : List Kind) (least most done : ℕ) (ws : List Piece) (total : Result (List ℕ) LineFault) → done < most → ws ≡ [] → least ≤ done
    → groups_onto before end ks (least - done) (most - done) ws ≡ total → total ≡ Ok before
unfolding groups_onto
groups_enough before end ks least most done ws total lt none enough so_far =
    let k : most - done ≡ suc (most - done - 1) = omega arith in
    sym so_far ∙ rw (none, k, eq-eqb (least - done) 0 (omega arith)) refl

-- one more group, and what is read behind it
abbrev behind : ℕ → List Kind → ℕ → ℕ → List ℕ × List Piece → Result (List ℕ) LineFault
behind end ks least more one = groups_onto one.0 end ks least more one.1

one_group : (before : List ℕ) (end : ℕ) (ks : List Kind) (least most done : ℕ) (w : Piece) (others : List Piece) → done < most
    → groups_onto before end ks (least - done) (most - done) (w ∷ others) ≡ (fields_onto before end ks (w ∷ others) >>= behind end ks (least - (done + 1)) (most - (done + 1)))
unfolding groups_onto
one_group before end ks least most done w others lt =
    let k : most - done ≡ suc (most - (done + 1)) = omega arith in
    let j : least - done - 1 ≡ least - (done + 1) = omega arith in
    rw (k, j) refl

pub groups_more : (before : List ℕ) (end : ℕ) (ks : List Kind) (least most done : ℕ) (w : Piece) (others ws : List Piece) (after : List ℕ) (rest : List Piece) (total : Result (List ℕ) LineFault) → done < most → ws ≡ w ∷ others
    → fields_onto before end ks ws ≡ Ok (after, rest)
    → groups_onto before end ks (least - done) (most - done) ws ≡ total → groups_onto after end ks (least - (done + 1)) (most - (done + 1)) rest ≡ total
groups_more before end ks least most done w others ws after rest total lt some read so_far =
    let now : fields_onto before end ks (w ∷ others) ≡ Ok (after, rest) = ap (fields_onto before end ks) (sym some) ∙ read in
    sym (ap (λ (r : Result (List ℕ × List Piece) LineFault). r >>= behind end ks (least - (done + 1)) (most - (done + 1))) now) ∙ sym (one_group before end ks least most done w others lt) ∙ ap (groups_onto before end ks (least - done) (most - done)) (sym some) ∙ so_far

pub groups_fail : (e : LineError) (before : List ℕ) (end : ℕ) (ks : List Kind) (least most done : ℕ) (w : Piece) (others ws : List Piece) (total : Result (List ℕ) LineFault) → done < most → ws ≡ w ∷ others
    → Fails e (fields_onto before end ks ws) → groups_onto before end ks (least - done) (most - done) ws ≡ total → Fails e total
groups_fail errors.OutOfMemory before end ks least most done w others ws total lt some read so_far = tt
groups_fail (errors.Fault f) before end ks least most done w others ws total lt some read so_far =
    let now : fields_onto before end ks (w ∷ others) ≡ Err f = ap (fields_onto before end ks) (sym some) ∙ read in
    sym so_far ∙ ap (groups_onto before end ks (least - done) (most - done)) some ∙ one_group before end ks least most done w others lt ∙ ap (λ (r : Result (List ℕ × List Piece) LineFault). r >>= behind end ks (least - (done + 1)) (most - (done + 1))) now
