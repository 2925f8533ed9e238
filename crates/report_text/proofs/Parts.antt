-- Texts of lines, and the lines of a certificate among them, put together from parts.
use Rattle.std.proofs.Common.{◌≡◌, ℕ, zero, suc, ◌+◌, ◌<◌, ◌≤◌, List, [], ◌∷◌, ◌++◌, length, All, Result, Ok, refl, sym, ap, ◌∙◌, arith, inl, inr}
use Rattle.std.specs.Prelude.{◌≢◌, codes}
use Rattle.std.specs.List.{flat_map, range_with_len}
use Rattle.std.proofs.lemmas.Grind.{flat_map-append}
use Rattle.std.proofs.lemmas.List.{append-nil, map-append}
use Rattle.std.proofs.lemmas.List.Elements.{All-append, All-cons, All-head, All-nil, All-tail}
use Rattle.deck_lines.specs.declared.fault.LineFault.{LineFault}
use Rattle.deck_lines.specs.declared.line.CertLine.{CertLine}
use Rattle.deck_lines.specs.declared.line.Line.{Line}
use Rattle.deck_lines.specs.declared.line.Line.TheVariants as lines
use Rattle.deck_lines.specs.declared.line.Mode.TheVariants as modes
use Rattle.deck_lines.specs.declared.line_word.LineWord.{LineWord}
use Rattle.deck_lines.specs.Grammar.{behind, line_of}
use Rattle.deck_lines.proofs.Texts.{placed}
use Rattle.report_text.specs.Lines.{line, texts}
use Rattle.report_text.specs.ReadBack.{IsReported, ReadsAs, certificate_in, certified_by}
use Rattle.report_text.proofs.Printed.{AreShown, Begins, IsReadable, readable, text_of}

-- a text of lines, which are read with these of a certificate among them
pub record IsPart (text : List ℕ) (certificate : List CertLine) : Type 0 where
  pub read : List Line
  pub reads : ReadsAs text read
  pub says : certificate_in read ≡ certificate

pub part_none : IsPart [] []
part_none = record {
  read = [];
  reads = record { texts = []; whole = refl; unbroken = All-nil _; each = refl; reported = All-nil _ };
  says = refl;
}

reads_append : (a b : List ℕ) (xs ys : List Line) → ReadsAs a xs → ReadsAs b ys → ReadsAs (a ++ b) (xs ++ ys)
reads_append a b xs ys p q = record {
  texts = p.texts ++ q.texts;
  whole = (λ i. p.whole i ++ q.whole i) ∙ sym (flat_map-append (λ (t : List ℕ). t ++ codes "\n") p.texts q.texts);
  unbroken = All-append (λ (t : List ℕ). All (λ b. b ≢ 10) t) p.texts q.texts p.unbroken q.unbroken;
  each = map-append (line_of modes.Certificate) p.texts q.texts ∙ ((λ i. p.each i ++ q.each i) ∙ sym (map-append (λ (r : Line). Ok r) xs ys));
  reported = All-append IsReported xs ys p.reported q.reported;
}

pub part_append : (a b : List ℕ) (xs ys : List CertLine) → IsPart a xs → IsPart b ys → IsPart (a ++ b) (xs ++ ys)
part_append a b xs ys p q = record {
  read = p.read ++ q.read;
  reads = reads_append a b p.read q.read p.reads q.reads;
  says = flat_map-append certified_by p.read q.read ∙ (λ i. p.says i ++ q.says i);
}

-- ---- one line

reads_line : (word : LineWord) (first : List ℕ) (others : List (List ℕ)) (read : Line) → IsReadable word first others
    → behind word (length (text_of first others) + 1) (placed (1 + length first) others) ≡ Ok read → IsReported read → ReadsAs (line first others) (read ∷ [])
reads_line word first others read r e known =
    let text = text_of first others in
    record {
      texts = text ∷ [];
      whole = r.whole ∙ sym (append-nil (text ++ codes "\n"));
      unbroken = All-cons (λ (t : List ℕ). All (λ b. b ≢ 10) t) text [] r.unbroken (All-nil _);
      each = ap (λ (x : Result Line LineFault). x ∷ []) (r.reads ∙ e);
      reported = All-cons IsReported read [] known (All-nil _);
    }

-- a line that no certificate needs
pub part_skip : (word : LineWord) (first : List ℕ) (others : List (List ℕ)) → Begins word first → AreShown others → length others ≤ 100
    → ((end column : ℕ) → behind word end (placed column others) ≡ Ok lines.Skip) → IsPart (line first others) []
part_skip word first others b h few e =
    record { read = lines.Skip ∷ []; reads = reads_line word first others lines.Skip (readable word first others b h few) (e _ _) (inl refl); says = refl }

-- a line of a certificate
pub part_cert : (word : LineWord) (first : List ℕ) (others : List (List ℕ)) (l : CertLine) → Begins word first → AreShown others → length others ≤ 100
    → ((end column : ℕ) → behind word end (placed column others) ≡ Ok (lines.Cert l)) → IsPart (line first others) (l ∷ [])
part_cert word first others l b h few e =
    record { read = lines.Cert l ∷ []; reads = reads_line word first others (lines.Cert l) (readable word first others b h few) (e _ _) (inr (l, refl)); says = refl }

-- ---- many

-- texts that no certificate needs
pub part_skips : {X : Type 0} (f : X → List ℕ) (xs : List X) → All (λ x. IsPart (f x) []) xs → IsPart (flat_map f xs) []
part_skips f [] h = part_none
part_skips {X} f (x ∷ xs) h = part_append (f x) (flat_map f xs) [] [] (All-head (λ (y : X). IsPart (f y) []) x xs h) (part_skips f xs (All-tail (λ (y : X). IsPart (f y) []) x xs h))

part_range : (f : ℕ → List ℕ) (g : ℕ → List CertLine) (a n : ℕ) → ((k : ℕ) → k < a + n → IsPart (f k) (g k)) → IsPart (flat_map f (range_with_len a n)) (flat_map g (range_with_len a n))
part_range f g a zero h = part_none
part_range f g a (suc n) h =
    part_append (f a) (flat_map f (range_with_len (a + 1) n)) (g a) (flat_map g (range_with_len (a + 1) n)) (h a (omega arith)) (part_range f g (a + 1) n (λ k b. h k (omega (arith, b))))

-- texts of places
pub part_texts : (n : ℕ) (f : ℕ → List ℕ) (g : ℕ → List CertLine) → ((k : ℕ) → k < n → IsPart (f k) (g k)) → IsPart (texts n f) (flat_map g (range_with_len 0 n))
part_texts n f g h = part_range f g 0 n (λ k b. h k (omega (arith, b)))
