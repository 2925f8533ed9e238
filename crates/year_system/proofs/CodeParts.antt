-- A code gives back its parts.
use Rattle.std.proofs.Common.{◌≡◌, ℕ, ◌+◌, ◌-◌, ◌*◌, ◌/◌, ◌%◌, ◌^◌, ◌<◌, List, All, length, get_or, sym, ap, ◌∙◌, arith, subst, Some, slice_get}
use Rattle.std.proofs.lemmas.Nat.{div-mul-add}
use Rattle.std.proofs.lemmas.Option.{slice_get_within, get_or_from_slice_get}
use Rattle.std.proofs.Math.Nat.{mod-add-div}
use Rattle.year_system.specs.System.{System, Fits, IsSystem, greatest, size}
use Rattle.year_system.specs.Code.{index_of}
use Rattle.year_system.specs.Code.{IsCode}
use Rattle.year_system.proofs.Radix.{digits_from, digits_same, number_small, index_is}

pub index_small : (s : System) (counts : List ℕ) → IsSystem s → Fits s counts → index_of (greatest s) counts < 2 ^ 50
index_small s counts v f =
    let d = digits_from (greatest s) counts f.width f.most in
    omega (arith, number_small (greatest s) counts d, index_is (greatest s) counts d, v.codes)

pub record Parts (book : List System) (code : ℕ) (c : IsCode book code) : Type 0 where
  pub within : c.id < length book
  pub id : (code - 1) / 2 ^ 50 ≡ c.id
  pub index : (code - 1) % 2 ^ 50 ≡ index_of (greatest c.system) c.counts
  pub small : index_of (greatest c.system) c.counts < size (greatest c.system)

pub parts_of : (book : List System) (code : ℕ) → All IsSystem book → (c : IsCode book code) → Parts book code c
parts_of book code v c =
    let w = slice_get_within book c.id c.system c.at in
    let s : IsSystem c.system = subst IsSystem (get_or_from_slice_get book c.id c.system c.system c.at) (v c.id c.system w) in
    let i = index_of (greatest c.system) c.counts in
    let small = index_small c.system c.counts s c.fits in
    let e : code - 1 ≡ c.id * 2 ^ 50 + i = omega (arith, c.is) in
    let q : (code - 1) / 2 ^ 50 ≡ c.id = ap (λ n. n / 2 ^ 50) e ∙ div-mul-add c.id (2 ^ 50) i small in
    let d = digits_from (greatest c.system) c.counts c.fits.width c.fits.most in
    record { within = w; id = q; index = omega (arith, mod-add-div (code - 1) (2 ^ 50), e, q); small = omega (arith, number_small (greatest c.system) c.counts d, index_is (greatest c.system) c.counts d) }

-- two places with one system
pub same_system : (book : List System) (i j : ℕ) (s t : System) → slice_get book i ≡ Some s → slice_get book j ≡ Some t → i ≡ j → s ≡ t
same_system book i j s t e f p =
    sym (get_or_from_slice_get book i s s e) ∙ (ap (λ k. get_or book k s) p ∙ get_or_from_slice_get book j t s f)

-- a code has one key
pub one_key : (book : List System) (code : ℕ) → All IsSystem book → (c d : IsCode book code) → (c.id ≡ d.id) × (c.counts ≡ d.counts)
one_key book code v c d =
    let p = parts_of book code v c in
    let q = parts_of book code v d in
    let i : c.id ≡ d.id = sym p.id ∙ q.id in
    let s : c.system ≡ d.system = same_system book c.id d.id c.system d.system c.at d.at i in
    let f : Fits c.system d.counts = rw s d.fits in
    let a = digits_from (greatest c.system) c.counts c.fits.width c.fits.most in
    let b = digits_from (greatest c.system) d.counts f.width f.most in
    let e : index_of (greatest c.system) c.counts ≡ index_of (greatest c.system) d.counts = sym p.index ∙ (q.index ∙ ap (λ (t : System). index_of (greatest t) d.counts) (sym s)) in
    (i, digits_same (greatest c.system) c.counts d.counts a b (sym (index_is (greatest c.system) c.counts a) ∙ (e ∙ index_is (greatest c.system) d.counts b)))
