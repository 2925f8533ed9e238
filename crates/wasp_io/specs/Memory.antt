-- What contracts see of a source and a sink in memory, and why they are sure where no call is to fail.
use Rattle.std.specs.Prelude.{◌≡◌, ◌==◌, ◌<◌, ℕ, List, Bool, true, false, None, Some, IsTrue, Vec, drop, length, vec_len, if◌then◌else◌}
use Rattle.std.specs.declared.alloc.Global.{Global}
use Rattle.std.proofs.Common.{refl, arith, eqb, cond}
use Rattle.std.proofs.lemmas.Bool.{eqb-true}
use Rattle.wasp_io.specs.Known.{IsSureWithin}
use Rattle.wasp_io.specs.declared.memory.MemSource.{MemSource}
use Rattle.wasp_io.specs.declared.memory.MemSink.{MemSink}

-- the bytes that a source has left
abbrev pub bytes_left : MemSource → List ℕ
bytes_left source = drop source.at source.bytes.items

-- how many calls of it were made; the count stands at its last value
abbrev pub takes_made : MemSource → ℕ
takes_made source = source.calls

-- the numbers of its calls that fail, from 1
abbrev pub failing_takes : MemSource → List ℕ
failing_takes source = source.fails.items

-- the most bytes that one call gives
abbrev pub take_chunk : MemSource → ℕ
take_chunk source = source.chunk

-- the bytes that a sink was given
abbrev pub bytes_written : MemSink → List ℕ
bytes_written sink = sink.bytes.items

abbrev pub puts_made : MemSink → ℕ
puts_made sink = sink.calls

abbrev pub failing_puts : MemSink → List ℕ
failing_puts sink = sink.fails.items

abbrev pub put_chunk : MemSink → ℕ
put_chunk sink = sink.chunk

-- the most bytes that it holds
abbrev pub sink_room : MemSink → ℕ
sink_room sink = sink.room

pub source_is_sure : (fails : List ℕ) (faults : ℕ) → (length fails ≡ 0 → faults ≡ 0) → IsTrue (length fails == 0) → faults ≡ 0
source_is_sure fails faults clean h = clean (eqb-true (length fails) 0 h)

chosen : (b : Bool) (room r : ℕ) → cond b (Some room) None ≡ Some r → (b ≡ true) × (room ≡ r)
chosen true room r e = (refl, cc)
chosen false room r e = absurd cc

pub sink_is_sure : (fails : List ℕ) (room : ℕ) (bytes : Vec ℕ Global) (faults : ℕ) → (length fails ≡ 0 → vec_len bytes < room → faults ≡ 0) → (r : ℕ) → (if length fails == 0 then Some room else None) ≡ Some r → IsSureWithin r (Some bytes.items) faults
sink_is_sure fails room bytes faults clean r e =
    let is = chosen (eqb (length fails) 0) room r e in
    record {
      told = (bytes.items, refl);
      no_fault = λ lt. clean (eqb-true (length fails) 0 is.0) (omega (arith, bytes.ok.0, is.1));
    }
