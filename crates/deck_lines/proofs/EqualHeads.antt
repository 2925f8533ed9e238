-- Heads with one key are equal.
use Rattle.std.proofs.Common.{◌≡◌, ◌==◌, true, ◌&&◌, if◌then◌else◌, refl, sym, ap, ◌∙◌}
use Rattle.std.proofs.lemmas.Bool.{and_parts, eq-eqb, eqb-true}
use Rattle.deck_lines.specs.declared.head.Head.{Head}
use Rattle.deck_lines.specs.declared.head.Head.TheVariants as heads
use Rattle.deck_lines.specs.Statements.{Key, key_of, same_key, same_head}

-- the head of a key
abbrev head_at : Key → Head
head_at k =
    if k.place == 0 then heads.Years
    else (if k.place == 1 then heads.Periods
    else (if k.place == 2 then heads.Rate
    else (if k.place == 3 then heads.Ens
    else (if k.place == 4 then heads.Rule
    else (if k.place == 5 then heads.Cases
    else (if k.place == 6 then heads.Conditions
    else (if k.place == 7 then heads.Shape k.i
    else (if k.place == 8 then heads.Fuel k.i
    else (if k.place == 9 then heads.Load k.i
    else (if k.place == 10 then heads.Plant k.i
    else (if k.place == 11 then heads.Add k.i k.j
    else (if k.place == 12 then heads.Retire k.i k.j
    else (if k.place == 13 then heads.Thermal k.i
    else (if k.place == 14 then heads.Hydro k.i
    else (if k.place == 15 then heads.Project k.i k.j
    else (if k.place == 16 then heads.Water k.i k.j k.k
    else (if k.place == 17 then heads.Tunnel k.i k.j
    else (if k.place == 18 then heads.Margin k.i k.j
    else (if k.place == 19 then heads.Lolp k.i k.j
    else (if k.place == 20 then heads.Version
    else (if k.place == 21 then heads.EnsMore
    else (if k.place == 22 then heads.Escalate
    else heads.Grid))))))))))))))))))))))

back : (h : Head) → head_at (key_of h) ≡ h
back heads.Years = refl
back heads.Periods = refl
back heads.Rate = refl
back heads.Ens = refl
back heads.Rule = refl
back heads.Cases = refl
back heads.Conditions = refl
back (heads.Shape i) = refl
back (heads.Fuel i) = refl
back (heads.Load i) = refl
back (heads.Plant i) = refl
back (heads.Add i j) = refl
back (heads.Retire i j) = refl
back (heads.Thermal i) = refl
back (heads.Hydro i) = refl
back (heads.Project i j) = refl
back (heads.Water i j k) = refl
back (heads.Tunnel i j) = refl
back (heads.Margin i j) = refl
back (heads.Lolp i j) = refl
back heads.Version = refl
back heads.EnsMore = refl
back heads.Escalate = refl
back heads.Grid = refl

same_keys : (a b : Key) → same_key a b ≡ true → a ≡ b
same_keys a b h =
    let third = and_parts ((a.place == b.place) && (a.i == b.i) && (a.j == b.j)) (a.k == b.k) h in
    let second = and_parts ((a.place == b.place) && (a.i == b.i)) (a.j == b.j) third.0 in
    let first = and_parts (a.place == b.place) (a.i == b.i) second.0 in
    let p = eqb-true a.place b.place first.0 in
    let i = eqb-true a.i b.i first.1 in
    let j = eqb-true a.j b.j second.1 in
    let k = eqb-true a.k b.k third.1 in
    λ t. record { place = p t; i = i t; j = j t; k = k t }

pub same_head-true : (a b : Head) → same_head a b ≡ true → a ≡ b
same_head-true a b h = sym (back a) ∙ ap head_at (same_keys (key_of a) (key_of b) h) ∙ back b

pub same_head-self : (a b : Head) → a ≡ b → same_head a b ≡ true
same_head-self a b e = rw (e, eq-eqb (key_of b).place (key_of b).place refl, eq-eqb (key_of b).i (key_of b).i refl, eq-eqb (key_of b).j (key_of b).j refl, eq-eqb (key_of b).k (key_of b).k refl) refl
