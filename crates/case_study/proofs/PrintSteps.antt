-- What the report of a case has is printable: numbers of 64 bits, and names.
use Rattle.std.proofs.Common.{◌≡◌, sym, subst, ℕ, ◌+◌, ◌^◌, ◌<◌, ◌≤◌, true, ◌&&◌, List, [], ◌∷◌, ◌++◌, All, length, arith}
use Rattle.std.specs.Prelude.{IsTrue, nat_le}
use Rattle.std.specs.List.{list_all}
use Rattle.std.proofs.lemmas.Bool.{and_parts, leb-true}
use Rattle.std.proofs.lemmas.Bool.Decides.{nat_tests}
use Rattle.std.proofs.lemmas.List.Elements.{All-cons, All-nil, All-push}
use Rattle.deck_lines.specs.Statements.{is_name, is_name_byte}
use Rattle.plant_data.specs.Rows.{IsRow}
use Rattle.report_text.specs.ReadBack.{ArePrintable, id_number, IsPrintableGeneration, IsPrintableName, IsPrintableYear}
use Rattle.report_text.specs.declared.data.Generation.{Generation}
use Rattle.report_text.specs.declared.data.PlanYear.{PlanYear}

-- ---- names

byte_printable : (b : ℕ) → is_name_byte b ≡ true → (33 ≤ b) × (b ≤ 126)
byte_printable b h = (grind (arith, nat_tests), grind (arith, nat_tests))

bytes_printable : (bs : List ℕ) → list_all is_name_byte bs ≡ true → All (λ (b : ℕ). (33 ≤ b) × (b ≤ 126)) bs
bytes_printable [] h = All-nil (λ (b : ℕ). (33 ≤ b) × (b ≤ 126))
bytes_printable (b ∷ bs) h =
    let p = and_parts (is_name_byte b) (list_all is_name_byte bs) h in
    All-cons (λ (c : ℕ). (33 ≤ c) × (c ≤ 126)) b bs (byte_printable b p.0) (bytes_printable bs p.1)

pub name_printable : (name : List ℕ) → IsTrue (is_name name) → IsPrintableName name
name_printable name h =
    let p = and_parts (nat_le 1 (length name) && nat_le (length name) 8) (list_all is_name_byte name) h in
    let q = and_parts (nat_le 1 (length name)) (nat_le (length name) 8) p.0 in
    record { some = leb-true 1 (length name) q.0; short = leb-true (length name) 8 q.1; bytes = bytes_printable name p.1 }

-- ---- numbers

number_printable : (n : ℕ) (ns : List ℕ) → n < 2 ^ 64 → ArePrintable ns → ArePrintable (n ∷ ns)
number_printable n ns h hs = All-cons (λ (m : ℕ). m < 2 ^ 64) n ns h hs

three_printable : (a b c : ℕ) → a < 2 ^ 64 → b < 2 ^ 64 → c < 2 ^ 64 → ArePrintable (a ∷ b ∷ c ∷ [])
three_printable a b c ha hb hc =
    number_printable a (b ∷ c ∷ []) ha (number_printable b (c ∷ []) hb (number_printable c [] hc (All-nil (λ (m : ℕ). m < 2 ^ 64))))

five_printable : (a b c d e : ℕ) → a < 2 ^ 64 → b < 2 ^ 64 → c < 2 ^ 64 → d < 2 ^ 64 → e < 2 ^ 64 → ArePrintable (a ∷ b ∷ c ∷ d ∷ e ∷ [])
five_printable a b c d e ha hb hc hd he =
    number_printable a (b ∷ c ∷ d ∷ e ∷ []) ha (number_printable b (c ∷ d ∷ e ∷ []) hb (three_printable c d e hc hd he))

-- ---- generations

-- one generation more
pub generations_printable : (before after : List Generation) (g : Generation) → after ≡ before ++ g ∷ [] → id_number g.id < 2 ^ 64 → IsTrue (is_name g.name) → g.energy < 2 ^ 64
    → All IsPrintableGeneration before → All IsPrintableGeneration after
generations_printable before after g is id name energy all =
    let one : IsPrintableGeneration g = record { id = id; name = name_printable g.name name; energy = energy } in
    subst (All IsPrintableGeneration) (sym is) (All-push IsPrintableGeneration before g all one)

-- ---- a year

pub year_printable : (y : PlanYear) → y.built.salvage ≤ y.built.build → y.built.build + y.built.stock ≤ 10 ^ 16 → y.ran.fuel + y.ran.upkeep + y.ran.unserved ≤ 10 ^ 16
    → IsRow y.row → All IsPrintableGeneration y.generations → IsPrintableYear y
year_printable y regained built ran row generations = record {
  built = three_printable y.built.build y.built.salvage y.built.stock (omega (arith, built)) (omega (arith, regained, built)) (omega (arith, built));
  ran = three_printable y.ran.fuel y.ran.upkeep y.ran.unserved (omega (arith, ran)) (omega (arith, ran)) (omega (arith, ran));
  risk = three_printable y.row.worst y.row.average y.row.unserved (omega (arith, row.worst)) (omega (arith, row.average)) (omega (arith, row.unserved));
  short = five_printable y.row.short1 y.row.short2 y.row.short3 y.row.short4 y.row.short5
      (omega (arith, row.short1)) (omega (arith, row.short2)) (omega (arith, row.short3)) (omega (arith, row.short4)) (omega (arith, row.short5));
  generations = generations;
}
