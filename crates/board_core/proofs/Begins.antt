-- A store at the start is sound.
use Rattle.std.proofs.Common.{true≢false, ◌≡◌, ◌≢◌, ℕ, zero, suc, ◌<◌, List, [], ◌∷◌, ◌++◌, sym, refl, ap, ◌∙◌, subst, inl, ⊎_elim, arith}
use Rattle.std.proofs.lemmas.Bool.{cases_eq}
use mathlib.Core.Option.{some, some-injective, some-ne-none}
use lib.ListN.{get_elem?}
use Rattle.board_core.specs.declared.actor.Actor.{Actor}
use Rattle.board_core.specs.Lists.{IsIn, times}
use Rattle.board_core.specs.Sound.{Terms, Cells, IsSound, waiting, fresh, Reaches}
use Rattle.board_core.specs.Events.{put, newcomer, Laid}
use Rattle.board_core.proofs.Parts.{Fits, whole}
use Rattle.board_core.proofs.Lists.{is_in-left, is_in-right, is_in-append, times-some, times-in, same_or_not}
use Rattle.board_core.proofs.Keeps.{each_put, put_here, put_else, reaches_map, fresh_cases}

abbrev pub from : Terms → List ℕ → Terms
from t start = record { slots = t.slots; home = t.home; due = t.due; codes = t.codes; start = start }

fits_newcomer : (t : Terms) (c : Cells) → Fits t c newcomer
fits_newcomer t c = record { seen = λ s x i. elim i [ ]; known = λ s i. elim i [ ]; hand = tt; living = λ _. omega arith; gone = λ e. absurd (true≢false e) }

one_actor : (t : Terms) (c : Cells) (k : ℕ) (a : Actor) → get_elem? (newcomer ∷ []) k ≡ some a → Fits t c a
one_actor t c zero a e = subst (Fits t c) (some-injective newcomer a e) (fits_newcomer t c)
one_actor t c (suc k) a e = absurd (some-ne-none a (sym e))

-- an empty store
pub begin_empty : (t : Terms) (c : Cells) → ((s : ℕ) → c.code s ≡ 0) → ((s : ℕ) → c.state s ≡ 0) → IsSound (from t []) c (newcomer ∷ [])
begin_empty t c codes states = whole (record {
  codes = λ s n. absurd (n (codes s));
  once = λ s u n. absurd (n (codes s));
  paths = λ s n. absurd (n (codes s));
  fits = one_actor (from t []) c;
  filled = λ s n. absurd (n (states s));
  hands = λ s. sym (ap (λ (x : ℕ). waiting x (c.state s)) (codes s));
  shares = refl;
  made = λ s. sym (ap (fresh []) (codes s));
  begun = λ x i. elim i [ ];
})

-- one more row
pub begin_more : (t : Terms) (c d : Cells) (start : List ℕ) (s x : ℕ) (words : ℕ → ℕ) → IsSound (from t start) c (newcomer ∷ [])
    → x ≢ 0 → IsIn x t.codes → (IsIn x start → ⊥) → c.code s ≡ 0 → Reaches t (λ u. c.code u ≢ 0) x s → Laid c d s x words → ((at : ℕ) → at < 11 → words at ≡ t.due x at)
    → IsSound (from t (start ++ x ∷ [])) d (newcomer ∷ [])
begin_more t c d start s x words h nz is_code new free path l due = whole (record {
  codes = λ u. subst (λ (y : ℕ). y ≢ 0 → (u < t.slots) × IsIn y t.codes) (sym (l.code u)) (each_put (λ y. y ≢ 0 → (u < t.slots) × IsIn y t.codes) c.code s x u
      (λ e _. (subst (λ (v : ℕ). v < t.slots) (sym e) in_range, is_code))
      (λ _. h.codes_once.0 u));
  once = λ u v. subst (λ (p : ℕ × ℕ). p.0 ≢ 0 → p.0 ≡ p.1 → u ≡ v) (λ i. (sym (l.code u) i, sym (l.code v) i)) (each_put (λ y. y ≢ 0 → y ≡ put c.code s x v → u ≡ v) c.code s x u
      (λ eu. each_put (λ z. x ≢ 0 → x ≡ z → u ≡ v) c.code s x v (λ ev _ _. eu ∙ sym ev) (λ _ _ e. absurd (fresh_code v (sym e))))
      (λ _. each_put (λ z. c.code u ≢ 0 → c.code u ≡ z → u ≡ v) c.code s x v (λ ev _ e. absurd (fresh_code u e)) (λ _. h.codes_once.1 u v)));
  paths = λ u. subst (λ (y : ℕ). y ≢ 0 → Reaches t (λ v. d.code v ≢ 0) y u) (sym (l.code u)) (each_put (λ y. y ≢ 0 → Reaches t (λ v. d.code v ≢ 0) y u) c.code s x u
      (λ e _. subst (Reaches t (λ v. d.code v ≢ 0) x) (sym e) (reaches_map t (λ v. c.code v ≢ 0) (λ v. d.code v ≢ 0) x s stays path))
      (λ _ m. reaches_map t (λ v. c.code v ≢ 0) (λ v. d.code v ≢ 0) (c.code u) u stays (h.paths_full u m)));
  fits = one_actor (from t (start ++ x ∷ [])) d;
  filled = λ u. subst (λ (y : ℕ). y ≢ 0 → (y ≡ 1) × (d.code u ≢ 0) × ((at : ℕ) → at < 11 → d.row u at ≡ t.due (d.code u) at)) (sym (l.state u))
      (each_put (λ y. y ≢ 0 → (y ≡ 1) × (d.code u ≢ 0) × ((at : ℕ) → at < 11 → d.row u at ≡ t.due (d.code u) at)) c.state s 1 u
      (λ e _. (refl, here u e, λ at lt. ap (λ k. d.row k at) e ∙ l.mine at lt ∙ due at lt ∙ ap (λ y. t.due y at) (sym (is_x u e))))
      (λ ne m. let o = h.filled_is_due u m in (o.0, stays u o.1, λ at lt. l.others u at ne ∙ o.2 at lt ∙ ap (λ y. t.due y at) (sym (l.code u ∙ put_else c.code s x u ne)))));
  hands = λ u. subst (λ (p : ℕ × ℕ). 0 ≡ waiting p.0 p.1) (λ i. (sym (l.code u) i, sym (l.state u) i)) (⊎_elim
      (λ (e : u ≡ s). sym (ap (waiting (put c.code s x u)) (ap (put c.state s 1) e ∙ put_here c.state s 1) ∙ no_wait (put c.code s x u)))
      (λ (n : u ≢ s). h.unfilled_in_one_hand u ∙ (λ i. waiting (sym (put_else c.code s x u n) i) (sym (put_else c.state s 1 u n) i)))
      (cases_eq u s));
  shares = refl;
  made = λ u. subst (λ (y : ℕ). 0 ≡ fresh (start ++ x ∷ []) y) (sym (l.code u)) (each_put (λ y. 0 ≡ fresh (start ++ x ∷ []) y) c.code s x u
      (λ _. none_fresh x (is_in-right x start (x ∷ []) (inl refl)))
      (λ _. ⊎_elim
      (λ (z : c.code u ≡ 0). sym (ap (fresh (start ++ x ∷ [])) z))
      (λ (n : c.code u ≢ 0). none_fresh (c.code u) (is_in-left (c.code u) start (x ∷ []) (of_start u n)))
      (cases_eq (c.code u) 0)));
  begun = λ y i. ⊎_elim
      (λ (old : IsIn y start). let b = h.start_stands y old in (b.0, keeps b.0 (λ z. b.2 (sym b.1 ∙ z)) ∙ b.1, b.2))
      (λ (one : IsIn y (x ∷ [])). ⊎_elim (λ (e : y ≡ x). (s, is_x s refl ∙ sym e, λ z. nz (sym e ∙ z))) (λ n. elim n [ ]) one)
      (is_in-append y start (x ∷ []) i);
})
  where
    in_range : s < t.slots
    in_range = let e = path.2 in let lt = path.1 in omega arith

    of_start : (u : ℕ) → c.code u ≢ 0 → IsIn (c.code u) start
    of_start u n = ⊎_elim
        (λ (z : times (c.code u) start ≡ 0). let f = (fresh_cases start (c.code u)).2 n z in let m = h.made_once u in absurd (omega arith))
        (λ (some : times (c.code u) start ≢ 0). times-some (c.code u) start some)
        (cases_eq (times (c.code u) start) 0)

    fresh_code : (u : ℕ) → c.code u ≢ x
    fresh_code u e = new (subst (λ y. IsIn y start) e (of_start u (λ z. nz (sym e ∙ z))))

    keeps : (u : ℕ) → c.code u ≢ 0 → d.code u ≡ c.code u
    keeps u n = l.code u ∙ put_else c.code s x u (λ e. n (ap c.code e ∙ free))

    stays : (u : ℕ) → c.code u ≢ 0 → d.code u ≢ 0
    stays u n z = n (sym (keeps u n) ∙ z)

    is_x : (u : ℕ) → u ≡ s → d.code u ≡ x
    is_x u e = l.code u ∙ ap (put c.code s x) e ∙ put_here c.code s x

    here : (u : ℕ) → u ≡ s → d.code u ≢ 0
    here u e z = nz (sym (is_x u e) ∙ z)

    no_wait : (y : ℕ) → waiting y 1 ≡ 0
    no_wait y = same_or_not (λ n. n ≡ 0) y 0 0 0 (λ _. refl) (λ _. refl)

    none_fresh : (y : ℕ) → IsIn y (start ++ x ∷ []) → 0 ≡ fresh (start ++ x ∷ []) y
    none_fresh y i = let some = times-in y (start ++ x ∷ []) i in let most = (fresh_cases (start ++ x ∷ []) y).0 in let why = (fresh_cases (start ++ x ∷ []) y).1 in
        ⊎_elim (λ (z : fresh (start ++ x ∷ []) y ≡ 0). sym z) (λ (n : fresh (start ++ x ∷ []) y ≢ 0). let none = why n in absurd (omega arith)) (cases_eq (fresh (start ++ x ∷ []) y) 0)
