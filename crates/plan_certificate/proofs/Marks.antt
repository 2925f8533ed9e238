-- The marks of lines that name a configuration again.
use Rattle.std.proofs.Common.{◌≡◌, ◌≢◌, ◌↔◌, ℕ, ◌+◌, ◌-◌, ◌<◌, ◌≤◌, Bool, true, false, List, [], ◌∷◌, ◌++◌, length, get_or, set, All, replicate, sym, ap, ◌∙◌, arith, subst, true≢false, ⊎_elim, inl, inr, ◌⊎◌}
use Rattle.std.proofs.lemmas.Bool.{cases_eq, cases_lt}
use Rattle.std.proofs.Math.ListN.{get_or-append}
use Rattle.std.proofs.lemmas.List.{get_or_push, get_or-replicate, get_or-set_other, get_or-set_same, get_or_default, get_or_past, length-replicate}
use Rattle.deck_lines.specs.declared.line.CertLine.{CertLine}
use Rattle.plan_certificate.specs.Gathered.{AreMarked, AreNamesOf, AreNumbered, HasMark, IsAdded, IsAgain, IsAgainBelow, IsMarked, MarksAgain, RepeatsAt, numbered_at}
use Rattle.plan_certificate.specs.Reading.{line_at, no_line}
use Rattle.plan_certificate.specs.declared.certificate.Named.{Named}
use Rattle.plan_certificate.specs.declared.gathered.Numbered.{Numbered}
use Rattle.plan_certificate.proofs.Orders.{InOrder, again_repeat, numbered_more, numbered_skip, repeat_again}

pub numbered_step : (lines : List CertLine) (year n : ℕ) (names new : List Numbered) (line : CertLine) → AreNumbered lines year n names → line ≡ get_or lines n line → n < length lines → IsAdded line n year names new → AreNumbered lines year (n + 1) new
numbered_step lines year n names new line h is b a =
    let at : line_at lines n ≡ line = sym (is ∙ get_or_default lines n line no_line b) in
    ⊎_elim
    (λ one. numbered_more lines year n names new line one.0 h at one.1 one.2)
    (λ none. subst (λ (xs : List Numbered). AreNumbered lines year (n + 1) xs) (sym none.1) (numbered_skip lines year n names line h at none.0))
    a

-- one name more
more : (names : List Numbered) (n line : ℕ) → RepeatsAt names n line → RepeatsAt names (n + 1) line
more names n line r = record { place = r.place; within = omega (arith, r.within); same = r.same; at = r.at }

less : (names : List Numbered) (n line : ℕ) → RepeatsAt names (n + 1) line → ((numbered_at names (n - 1)).named.config ≡ (numbered_at names n).named.config → (numbered_at names n).line ≡ line → ⊥) → RepeatsAt names n line
less names n line r never =
    ⊎_elim
    (λ last.
    let before : r.place ≡ n - 1 = omega (arith, last) in
    absurd (never (ap (λ k. (numbered_at names k).named.config) (sym before) ∙ (r.same ∙ ap (λ k. (numbered_at names k).named.config) last)) (ap (λ k. (numbered_at names k).line) (sym last) ∙ r.at)))
    (λ other. record { place = r.place; within = omega (arith, r.within, other); same = r.same; at = r.at })
    (cases_eq (r.place + 1) n)

pub marked_step : (names : List Numbered) (n : ℕ) (before name : Numbered) (old mid new : List Bool) → AreMarked names n old mid → 1 ≤ n → before ≡ numbered_at names (n - 1) → name ≡ numbered_at names n → n < length names → name.line < length mid → IsMarked before name mid new → AreMarked names (n + 1) old new
marked_step names n before name old mid new h some eb en b room m line =
    ⊎_elim (λ same. hit same.0 same.1) (λ other. miss other.0 other.1) m
  where
    configs : before.named.config ≡ name.named.config → (numbered_at names (n - 1)).named.config ≡ (numbered_at names n).named.config
    configs e = ap (λ (x : Numbered). x.named.config) (sym eb) ∙ (e ∙ ap (λ (x : Numbered). x.named.config) en)

    here : before.named.config ≡ name.named.config → name.line ≡ line → RepeatsAt names (n + 1) line
    here e l =
        let next : n - 1 + 1 ≡ n = omega (arith, some) in
        record {
          place = n - 1;
          within = omega (arith, some);
          same = configs e ∙ ap (λ k. (numbered_at names k).named.config) (sym next);
          at = ap (λ k. (numbered_at names k).line) next ∙ (ap (λ (x : Numbered). x.line) (sym en) ∙ l);
        }

    hit : before.named.config ≡ name.named.config → new ≡ set mid name.line true → HasMark new line ↔ (HasMark old line ⊎ RepeatsAt names (n + 1) line)
    hit e w = ⊎_elim
        (λ (l : line ≡ name.line). (
          λ _. inr (here e (sym l)),
          λ _. ap (λ (xs : List Bool). get_or xs line false) w ∙ (ap (λ k. get_or (set mid name.line true) k false) l ∙ get_or-set_same mid name.line true false room),
        ))
        (λ other.
        let at : get_or new line false ≡ get_or mid line false = ap (λ (xs : List Bool). get_or xs line false) w ∙ get_or-set_other mid name.line line true false other in (
          λ g. ⊎_elim (λ o. inl o) (λ r. inr (more names n line r)) ((h line).0 (sym at ∙ g)),
          λ g. at ∙ (h line).1 (⊎_elim (λ o. inl o) (λ r. inr (less names n line r (λ _ l. other (sym l ∙ ap (λ (x : Numbered). x.line) (sym en))))) g),
        ))
        (cases_eq line name.line)

    miss : before.named.config ≢ name.named.config → new ≡ mid → HasMark new line ↔ (HasMark old line ⊎ RepeatsAt names (n + 1) line)
    miss never w =
        let at : get_or new line false ≡ get_or mid line false = ap (λ (xs : List Bool). get_or xs line false) w in (
          λ g. ⊎_elim (λ o. inl o) (λ r. inr (more names n line r)) ((h line).0 (sym at ∙ g)),
          λ g. at ∙ (h line).1 (⊎_elim (λ o. inl o) (λ r. inr (less names n line r (λ e _. never (ap (λ (x : Numbered). x.named.config) eb ∙ (e ∙ ap (λ (x : Numbered). x.named.config) (sym en)))))) g),
        )

-- a list that is done
pub marked_done : (names : List Numbered) (n : ℕ) (old new : List Bool) → AreMarked names n old new → 1 ≤ n → length names ≤ n → (1 < n → n ≤ length names) → AreMarked names (length names) old new
marked_done names n old new h some past up line = (
  λ g. ⊎_elim (λ o. inl o) (λ r. inr (record { place = r.place; within = omega (arith, r.within, few r.place r.within); same = r.same; at = r.at })) ((h line).0 g),
  λ g. (h line).1 (⊎_elim (λ o. inl o) (λ r. inr (record { place = r.place; within = omega (arith, r.within, past); same = r.same; at = r.at })) g),
)
  where
    few : (k : ℕ) → k + 1 < n → n ≤ length names
    few k b = up (omega (arith, b))

pub marks_again : (lines : List CertLine) (year : ℕ) (names : List Numbered) (old new : List Bool) → AreNumbered lines year (length lines) names → InOrder names → AreMarked names (length names) old new → MarksAgain lines year old new
marks_again lines year names old new h o m line = (
  λ g. ⊎_elim (λ a. inl a) (λ r. inr (repeat_again lines year names h o line r)) ((m line).0 g),
  λ g. (m line).1 (⊎_elim (λ a. inl a) (λ r. inr (again_repeat lines year names h o line r)) g),
)

-- ---- years

pub below_more : (lines : List CertLine) (year : ℕ) (old new : List Bool) → ((line : ℕ) → HasMark old line ↔ IsAgainBelow lines year line) → MarksAgain lines year old new → (line : ℕ) → HasMark new line ↔ IsAgainBelow lines (year + 1) line
below_more lines year old new h m line = (
  λ g. ⊎_elim (λ a. wider ((h line).0 a)) (λ a. (year, omega arith, a)) ((m line).0 g),
  λ g. (m line).1 (back g),
)
  where
    wider : IsAgainBelow lines year line → IsAgainBelow lines (year + 1) line
    wider (y, b, a) = (y, omega (arith, b), a)

    back : IsAgainBelow lines (year + 1) line → HasMark old line ⊎ IsAgain lines year line
    back (y, b, a) = ⊎_elim (λ same. inr (subst (λ n. IsAgain lines n line) same a)) (λ other. inl ((h line).1 (y, omega (arith, b, other), a))) (cases_eq y year)

pub lines_within : (lines : List CertLine) (year : ℕ) (names xs : List Numbered) (marks : List Bool) → xs ≡ names → AreNumbered lines year (length lines) names → length marks ≡ length lines → All (λ m. m.line < length marks) xs
lines_within lines year names xs marks e h n = subst (λ (ys : List Numbered). All (λ m. m.line < length marks) ys) (sym e) (λ k d b. omega (arith, (h.each k d b).within, n))

pub names_more : (lines : List CertLine) (year : ℕ) (old new : List (List Named)) (row : List Named) → length old ≡ year → ((k : ℕ) → k < year → AreNamesOf lines k (get_or old k [])) → AreNamesOf lines year row → new ≡ old ++ row ∷ [] → (k : ℕ) → k < year + 1 → AreNamesOf lines k (get_or new k [])
names_more lines year old new row n h here e k b = subst (λ (xs : List (List Named)). AreNamesOf lines k (get_or xs k [])) (sym e) (⊎_elim
    (λ same. subst (λ (names : List Named). AreNamesOf lines k names) (sym (get_or_push old row [] k (n ∙ sym same))) (subst (λ j. AreNamesOf lines j row) (sym same) here))
    (λ other. subst (λ (names : List Named). AreNamesOf lines k names) (sym (get_or-append old (row ∷ []) [] k (omega (arith, b, other, n)))) (h k (omega (arith, b, other))))
    (cases_eq k year))
