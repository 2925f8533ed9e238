-- Lines of hourly loads, one behind the other.
use Rattle.std.proofs.Common.{◌≡◌, ◌∙◌, refl, sym, ap, subst, ℕ, ◌+◌, ◌<◌, ◌≤◌, Bool, List, [], ◌∷◌, ◌++◌, length, Option, None, Some, append_assoc, arith}
use Rattle.std.specs.Prelude.{IfOk, IfSome, Result, Ok, Err, if◌then◌else◌}
use Rattle.std.specs.Io.KnownBytes.{Consumes, Keeps, IsAtEnd}
use Rattle.std.proofs.lemmas.Bool.{le-ltb, lt-ltb}
use Rattle.std.proofs.lemmas.List.{length-append}
use Rattle.line_reader.specs.Lines.{lines_of, unlines, IsUnbroken}
use Rattle.line_reader.specs.Reading.{ahead, LineBegins}
use Rattle.line_reader.proofs.Steps.{Consumes-none, Consumes-then}
use Rattle.deck_lines.specs.LineFault.{fault}
use Rattle.deck_lines.specs.declared.fault.LineFault.{LineFault}
use Rattle.deck_lines.specs.declared.fault.LineKind.TheVariants as kinds
use Rattle.hourly_load.specs.Lines.{load_line_of}
use Rattle.hourly_load.specs.declared.line.LoadLine.{LoadLine}
use Rattle.wasp4.specs.declared.hours.LoadTurn.{LoadTurn}
use Rattle.wasp4.specs.declared.hours.LoadTurn.TheVariants as turns
use Rattle.wasp4.specs.Hours.{LineTurn, LoadsFrom, StopsBetweenLoads, TakesLoads, TakesPart, load_behind, load_then, loads_behind, loads_of, stated_behind}
use Rattle.wasp4.specs.Script.{Malformed}
use Rattle.wasp4.proofs.Refusing.{begun, consumes_none, no_byte}
use Rattle.wasp4.proofs.Texts.{ahead_none, all_push, behind_line, behind_lines, unlines-push}

-- ---- one line

pub no_end : (n : ℕ) (loads : List ℕ) → loads_behind n loads [] ≡ Err (record { line = n + 1; fault = fault kinds.NoEnd 1 })
unfolding loads_behind
no_end n loads = refl

line_more : (n : ℕ) (loads bytes : List ℕ) (more : List (List ℕ)) → loads_behind n loads (bytes ∷ more) ≡ load_then n loads (λ ls. loads_behind (n + 1) ls more) (load_behind n loads bytes)
unfolding loads_behind
line_more n loads bytes more = refl

-- within the number of lines
pub line_here : (n : ℕ) (loads bytes : List ℕ) (result : Result LoadLine LineFault) → n < 100000 → stated_behind loads bytes ≡ result
    → (more : List (List ℕ)) → loads_behind n loads (bytes ∷ more) ≡ load_then n loads (λ ls. loads_behind (n + 1) ls more) result
line_here n loads bytes result few is more =
    line_more n loads bytes more
    ∙ ap (load_then n loads (λ ls. loads_behind (n + 1) ls more)) (ap (λ (b : Bool). if b then stated_behind loads bytes else Err (fault kinds.ManyLines 1)) (lt-ltb n 100000 few) ∙ is)

-- past it
pub too_many : (n : ℕ) (loads bytes : List ℕ) (more : List (List ℕ)) → 100000 ≤ n → loads_behind n loads (bytes ∷ more) ≡ Err (record { line = n + 1; fault = fault kinds.ManyLines 1 })
too_many n loads bytes more full =
    line_more n loads bytes more
    ∙ ap (λ (b : Bool). load_then n loads (λ ls. loads_behind (n + 1) ls more) (if b then stated_behind loads bytes else Err (fault kinds.ManyLines 1))) (le-ltb n 100000 full)

-- a line of more than 4,096 bytes
long_is : (loads bytes : List ℕ) → 4096 < length bytes → stated_behind loads bytes ≡ Err (fault kinds.Long 4097)
unfolding load_line_of
long_is loads bytes long = rw (lt-ltb 4096 (length bytes) long) refl

pub long_here : (n : ℕ) (loads line : List ℕ) (text : Option (List ℕ)) → n < 100000 → 4096 < length line → IfSome text (λ t. LineBegins t line)
    → IfSome text (λ t. loads_behind n loads (lines_of t) ≡ Err (record { line = n + 1; fault = fault kinds.Long 4097 }))
long_here n loads line None few long begins = tt
long_here n loads line (Some t) few long begins =
    ap (loads_behind n loads) begins.2
    ∙ line_here n loads (line ++ begins.0) (Err (fault kinds.Long 4097)) few (long_is loads (line ++ begins.0) (omega (arith, long, length-append line begins.0))) begins.1

-- the text is at its end
pub at_end : (n : ℕ) (loads : List ℕ) (text : Option (List ℕ)) → IfSome text (λ t. lines_of t ≡ [])
    → IfSome text (λ t. loads_behind n loads (lines_of t) ≡ Err (record { line = n + 1; fault = fault kinds.NoEnd 1 }))
at_end n loads None h = tt
at_end n loads (Some t) h = ap (loads_behind n loads) h ∙ no_end n loads

-- ---- one turn

-- a line with its line feed
pub line_turn : (n : ℕ) (before now : Option (List ℕ)) (bytes loads loads' : List ℕ) (turn : LoadTurn) → Consumes before now (bytes ++ 10 ∷ []) → IsUnbroken bytes → LineTurn n bytes loads loads' turn → LoadsFrom n before now loads loads' turn
line_turn n before now bytes loads loads' turns.Goes taken whole h = record { bytes = bytes; whole = whole; taken = taken; leads = h }
line_turn n before now bytes loads loads' turns.Ended taken whole h = behind_line before now bytes (λ ls. loads_behind n loads ls ≡ Ok loads') whole taken h
line_turn n before now bytes loads loads' (turns.Malformed m f) taken whole h = behind_line before now bytes (λ ls. loads_behind n loads ls ≡ Err (record { line = m; fault = f })) whole taken h
line_turn n before now bytes loads loads' turns.Failed taken whole h = absurd h

pub line_turned : {X : Type 0} (n : ℕ) (before now : Option (List ℕ)) (bytes loads loads' : List ℕ) (result : Result LoadTurn X) → Consumes before now (bytes ++ 10 ∷ []) → IsUnbroken bytes
    → IfOk result (λ turn. LineTurn n bytes loads loads' turn) → IfOk result (λ turn. LoadsFrom n before now loads loads' turn)
line_turned {X} n before now bytes loads loads' (Ok turn) taken whole h = line_turn n before now bytes loads loads' turn taken whole h
line_turned {X} n before now bytes loads loads' (Err e) taken whole h = tt

-- the last line, without one
last_is : (n : ℕ) (loads bytes : List ℕ) (result : Result (List ℕ) Malformed) (before : Option (List ℕ)) → IfSome before (λ t. lines_of t ≡ bytes ∷ []) → loads_behind n loads (bytes ∷ []) ≡ result → IfSome before (λ t. loads_behind n loads (lines_of t) ≡ result)
last_is n loads bytes result None h e = tt
last_is n loads bytes result (Some t) h e = ap (loads_behind n loads) h ∙ e

pub last_goes : (n m : ℕ) (before : Option (List ℕ)) (bytes loads loads' : List ℕ) → m ≡ n + 1 + 1 → IfSome before (λ t. lines_of t ≡ bytes ∷ []) → LineTurn n bytes loads loads' turns.Goes
    → IfSome before (λ t. loads_behind n loads (lines_of t) ≡ Err (record { line = m; fault = fault kinds.NoEnd 1 }))
last_goes n m before bytes loads loads' e h leads =
    last_is n loads bytes (Err (record { line = m; fault = fault kinds.NoEnd 1 })) before h
    (leads [] ∙ no_end (n + 1) loads' ∙ ap (λ (k : ℕ). Err (record { line = k; fault = fault kinds.NoEnd 1 })) (sym e))

pub last_ended : (n : ℕ) (before : Option (List ℕ)) (bytes loads loads' : List ℕ) → IfSome before (λ t. lines_of t ≡ bytes ∷ []) → LineTurn n bytes loads loads' turns.Ended
    → IfSome before (λ t. loads_behind n loads (lines_of t) ≡ Ok loads')
last_ended n before bytes loads loads' h ends = last_is n loads bytes (Ok loads') before h (ends [])

pub last_malformed : (n m : ℕ) (f : LineFault) (before : Option (List ℕ)) (bytes loads loads' : List ℕ) → IfSome before (λ t. lines_of t ≡ bytes ∷ []) → LineTurn n bytes loads loads' (turns.Malformed m f)
    → IfSome before (λ t. loads_behind n loads (lines_of t) ≡ Err (record { line = m; fault = f }))
last_malformed n m f before bytes loads loads' h faulty = last_is n loads bytes (Err (record { line = m; fault = f })) before h (faulty [])

-- ---- many turns

pub started : (before : Option (List ℕ)) (kept : List ℕ) → kept ≡ [] → TakesLoads 0 before (ahead kept before) []
started before kept none = record {
  texts = [];
  whole = tt;
  taken = subst (λ (b : Option (List ℕ)). Consumes before b []) (sym (ahead_none before kept none)) (Consumes-none before);
  leads = λ more. refl;
}

pub advanced : (n : ℕ) (a b c : Option (List ℕ)) (loads loads' : List ℕ) → TakesLoads n a b loads → LoadsFrom n b c loads loads' turns.Goes → TakesLoads (n + 1) a c loads'
advanced n a b c loads loads' so_far line = record {
  texts = so_far.texts ++ line.bytes ∷ [];
  whole = all_push so_far.texts line.bytes so_far.whole line.whole;
  taken = subst (Consumes a c) (unlines-push so_far.texts line.bytes) (Consumes-then a b c (unlines so_far.texts) (line.bytes ++ 10 ∷ []) so_far.taken line.taken);
  leads = λ more. ap (loads_behind 0 []) (append_assoc so_far.texts (line.bytes ∷ []) more) ∙ so_far.leads (line.bytes ∷ more) ∙ line.leads more;
}

-- what is so of all lines that are left is so of the whole text
leads_on : (n : ℕ) (loads : List ℕ) (result : Result (List ℕ) Malformed) (texts : List (List ℕ)) (b : Option (List ℕ)) → ((more : List (List ℕ)) → loads_behind 0 [] (texts ++ more) ≡ loads_behind n loads more)
    → IfSome b (λ text. loads_behind n loads (lines_of text) ≡ result) → IfSome b (λ text. loads_behind 0 [] (texts ++ lines_of text) ≡ result)
leads_on n loads result texts None leads h = tt
leads_on n loads result texts (Some t) leads h = leads (lines_of t) ∙ h

pub over : (n : ℕ) (a b : Option (List ℕ)) (loads : List ℕ) (result : Result (List ℕ) Malformed) → TakesLoads n a b loads → IfSome b (λ text. loads_behind n loads (lines_of text) ≡ result) → IfSome a (λ text. loads_of text ≡ result)
over n a b loads result so_far h =
    behind_lines a b so_far.texts (λ ls. loads_behind 0 [] ls ≡ result) so_far.whole so_far.taken (leads_on n loads result so_far.texts b so_far.leads h)

pub stopped : (n : ℕ) (a b left : Option (List ℕ)) (kept loads : List ℕ) → TakesLoads n a b loads → TakesPart n b (ahead kept left) → kept ≡ [] → StopsBetweenLoads a left
stopped n a b left kept loads so_far part none = record {
  n = n;
  loads = loads;
  texts = so_far.texts;
  whole = so_far.whole;
  part = part.part;
  unended = part.unended;
  short = part.short;
  taken = subst (λ (y : Option (List ℕ)). Consumes a y (unlines so_far.texts ++ part.part)) (ahead_none left kept none) (Consumes-then a b (ahead kept left) (unlines so_far.texts) part.part so_far.taken part.taken);
  leads = so_far.leads;
  few = part.few;
}

-- ---- behind the last line that there may be

pub past_byte : (before now : Option (List ℕ)) (b : ℕ) (loads : List ℕ) → Consumes before now (b ∷ []) → IfSome before (λ t. loads_behind 100000 loads (lines_of t) ≡ Err (record { line = 100001; fault = fault kinds.ManyLines 1 }))
past_byte None now b loads taken = tt
past_byte (Some t) None b loads taken = absurd taken
past_byte (Some t) (Some rest) b loads taken =
    let w = begun b rest in
    ap (λ (x : List ℕ). loads_behind 100000 loads (lines_of x)) taken ∙ ap (loads_behind 100000 loads) w.2 ∙ too_many 100000 loads w.0 w.1 (omega arith)

pub past_end : (before : Option (List ℕ)) (loads : List ℕ) → IsAtEnd before → IfSome before (λ t. loads_behind 100000 loads (lines_of t) ≡ Err (record { line = 100001; fault = fault kinds.NoEnd 1 }))
past_end before loads h = at_end 100000 loads before (no_byte before h)

pub past_fault : (before now : Option (List ℕ)) → Keeps before now → TakesPart 100000 before now
past_fault before now keeps = record { part = []; unended = tt; short = omega arith; taken = consumes_none before now keeps; few = λ full. refl }
