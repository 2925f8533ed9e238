-- Which fault a count of faults rose by, and what cannot fail.
use Rattle.std.proofs.Common.{◌≡◌, ◌∙◌, refl, sym, ap, subst, true≢false, is_some, ℕ, ◌<◌, List, [], ◌∷◌, ◌++◌, length, Option, None, Some, arith}
use Rattle.std.specs.Prelude.{Result, Ok, IfSome, IsTrue, nat_le}
use Rattle.std.proofs.lemmas.List.{length-append}
use Rattle.std.specs.Io.KnownBytes.{Appends}
use Rattle.wasp_io.specs.Causes.{HasCause, Rose}
use Rattle.wasp_io.specs.Known.{IsSureWithin, is_failed}
use Rattle.wasp_io.specs.declared.sink.Given.{Given}
use Rattle.wasp_io.specs.declared.sink.Given.TheVariants as given
use Rattle.wasp_session.specs.declared.command.Command.{Command}
use Rattle.wasp4.specs.Out.{IsFront, accepted, asked_by, used, with_engines}
use Rattle.wasp4.specs.declared.asked.Asked.{Asked}
use Rattle.wasp4.specs.Progress.{HasRoomFor, PutAs, StopsShort}
use Rattle.wasp4.specs.Script.{script_of}
use Rattle.wasp4.specs.declared.status.Status.{Status}
use Rattle.wasp4.specs.declared.status.Status.TheVariants as statuses
use Rattle.wasp4.specs.declared.status.Turn.{Turn}

same_ok : {A X : Type 0} {a b : A} → ◌≡◌ {A = Result A X} (Ok a) (Ok b) → a ≡ b
same_ok h = cc

same_some : {A : Type 0} {a b : A} → ◌≡◌ {A = Option A} (Some a) (Some b) → a ≡ b
same_some h = cc

-- a put that wrote counted no fault
pub none_counted : (result : Given) (n f g : ℕ) → result ≡ given.Wrote n → HasCause f g (result ≡ given.Failed) → g ≡ f
none_counted result n f g is cause = cause.only (λ e. true≢false (ap is_failed (sym e ∙ is)))

-- the same fault in other words, from an earlier count that is the same
pub same_cause : {P Q : Type 0} (e f g : ℕ) → f ≡ e → (P → Q) → (Q → P) → HasCause f g P → HasCause e g Q
same_cause {P} {Q} e f g same to from cause = record {
  later = omega (arith, same, cause.later);
  rose = λ q. subst (λ (x : ℕ). Rose x g) same (cause.rose (from q));
  only = λ none. cause.only (λ p. none (to p)) ∙ same;
}

over_none : {P : Type 0} (turn : Turn) (is : Option Turn) → is ≡ Some turn → is ≡ None → P
over_none turn is e none = absurd (true≢false (ap is_some (sym e ∙ none)))

-- a source that failed is answered so
fault_read : (a b : Option (List ℕ)) (text : List ℕ) (turn : Option Turn) (served : Option Status) → PutAs a b text turn served → turn ≡ None → served ≡ Some statuses.ReadFault
fault_read a b text turn None put none = over_none _ turn put.0 none
fault_read a b text turn (Some statuses.Done) put none = over_none _ turn put.0 none
fault_read a b text turn (Some statuses.CheckNo) put none = over_none _ turn put.0 none
fault_read a b text turn (Some statuses.Malformed) put none = over_none _ turn put.0 none
fault_read a b text turn (Some statuses.ReadFault) put none = refl
fault_read a b text turn (Some statuses.WriteFault) put none = absurd (put.0 none)
fault_read a b text turn (Some statuses.OutOfMemory) put none = absurd put
fault_read a b text turn (Some statuses.BadWords) put none = absurd put

read_fault : (a b : Option (List ℕ)) (text : List ℕ) (turn : Option Turn) (served : Option Status) → PutAs a b text turn served → served ≡ Some statuses.ReadFault → turn ≡ None
read_fault a b text turn served put is = let ends : PutAs a b text turn (Some statuses.ReadFault) = subst (PutAs a b text turn) is put in ends.0

pub read_cause : {X : Type 0} (a b : Option (List ℕ)) (text : List ℕ) (turn : Option Turn) (served : Option Status) (f g : ℕ) → PutAs a b text turn served
    → HasCause f g (◌≡◌ {A = Result (Option Turn) X} (Ok turn) (Ok None)) → HasCause f g (◌≡◌ {A = Result (Option Status) X} (Ok served) (Ok (Some statuses.ReadFault)))
read_cause {X} a b text turn served f g put cause =
    same_cause f f g refl (λ is. ap (λ (x : Option Status). Ok x) (fault_read a b text turn served put (same_ok is))) (λ is. ap (λ (x : Option Turn). Ok x) (read_fault a b text turn served put (same_ok is))) cause

pub read_cause_past : {X : Type 0} (a b : Option (List ℕ)) (text : List ℕ) (turn : Option Turn) (status : Status) (f g : ℕ) → PutAs a b text turn (Some status)
    → HasCause f g (◌≡◌ {A = Result (Option Turn) X} (Ok turn) (Ok None)) → HasCause f g (◌≡◌ {A = Result Status X} (Ok status) (Ok statuses.ReadFault))
read_cause_past {X} a b text turn status f g put cause =
    same_cause f f g refl (λ is. ap (λ (x : Status). Ok x) (same_some (fault_read a b text turn (Some status) put (same_ok is)))) (λ is. ap (λ (x : Option Turn). Ok x) (read_fault a b text turn (Some status) put (ap (λ (x : Status). Some x) (same_ok is)))) cause

-- how a run ends that a line ended
pub ended_cause : {X Y : Type 0} (served : Option Status) (status fault : Status) (e f g : ℕ) → served ≡ Some status → f ≡ e
    → HasCause f g (◌≡◌ {A = Result (Option Status) X} (Ok served) (Ok (Some fault))) → HasCause e g (◌≡◌ {A = Result Status Y} (Ok status) (Ok fault))
ended_cause {X} {Y} served status fault e f g is same cause =
    same_cause e f g same (λ h. ap (λ (x : Status). Ok x) (same_some (sym is ∙ same_ok h))) (λ h. ap (λ (x : Option Status). Ok x) (is ∙ ap (λ (x : Status). Some x) (same_ok h))) cause

-- nothing is kept behind it
pub kept_none : {X : Type 0} {P : Type 0} (served : Option Status) (status : Status) → served ≡ Some status → (◌≡◌ {A = Result (Option Status) X} (Ok served) (Ok (Some statuses.ReadFault)) → P) → status ≡ statuses.ReadFault → P
kept_none {X} {P} served status is none fault = none (ap (λ (x : Option Status). Ok x) (is ∙ ap (λ (x : Status). Some x) fault))

-- a line behind which the script goes on counted no fault
pub goes_uncounted : {X : Type 0} (served : Option Status) (fault : Status) (e f g : ℕ) → served ≡ None → f ≡ e → HasCause f g (◌≡◌ {A = Result (Option Status) X} (Ok served) (Ok (Some fault))) → g ≡ e
goes_uncounted {X} served fault e f g goes same cause = cause.only (λ is. true≢false (sym (ap is_some (sym goes ∙ same_ok is)))) ∙ same

-- ---- what cannot fail

of_told : (a : Option (List ℕ)) (bytes : List ℕ) (P : List ℕ → Type 0) → a ≡ Some bytes → IfSome a P → P bytes
of_told a bytes P is h = let told : IfSome (Some bytes) P = subst (λ (x : Option (List ℕ)). IfSome x P) is h in told

wrote_is : (a b : Option (List ℕ)) (before said : List ℕ) → a ≡ Some before → ((bytes : List ℕ) × (b ≡ Some bytes)) → Appends a b said → b ≡ Some (before ++ said)
wrote_is a b before said was told wrote =
    let appends : Appends (Some before) (Some told.0) said = subst (λ (x : Option (List ℕ)). Appends x (Some told.0) said) was (subst (λ (x : Option (List ℕ)). Appends a x said) told.1 wrote) in
    told.1 ∙ ap (λ (x : List ℕ). Some x) appends

-- a count that is 0 did not rise
not_risen : {P : Type 0} (f g : ℕ) → g ≡ 0 → Rose f g → P
not_risen f g none rose = absurd (omega (arith, none, rose))

-- a sink with room for the whole text did not fail
pub never_short : (command : Command) (left a b : Option (List ℕ)) (room : Option ℕ) (f g : ℕ) → HasRoomFor command left a room → ((r : ℕ) → room ≡ Some r → IsSureWithin r b g) → StopsShort command left a b → Rose f g → ⊥
never_short command left a b room f g has sure short rose =
    let within = sure has.most has.sure in
    let now : List ℕ = has.before ++ short.said in
    let wrote : b ≡ Some now = wrote_is a b has.before short.said has.wrote within.told short.wrote in
    let front : IsFront command (script_of command has.bytes) (short.said ++ short.next ∷ []) = of_told left has.bytes (λ text. IsFront command (script_of command text) (short.said ++ short.next ∷ [])) has.told short.front in
    let fits = has.fits (short.said ++ short.next ∷ []) front in
    let fewer : length now < has.most = omega (arith, fits, length-append short.said (short.next ∷ []), length-append has.before short.said) in
    not_risen f g (of_told b now (λ bytes. length bytes < has.most → g ≡ 0) wrote within.no_fault fewer) rose

-- what the words ask for is what is accepted
pub same_asked : (words : List (List ℕ)) (engines : ℕ) (result : Option Asked) (asked other : Asked) → result ≡ Some asked → result ≡ asked_by words → IsTrue (nat_le (used asked) engines) → accepted words engines ≡ Some other → asked ≡ other
same_asked words engines result asked other is by enough taken =
    let told : with_engines engines (Some asked) ≡ Some other = subst (λ (x : Option Asked). with_engines engines x ≡ Some other) (sym by ∙ is) taken in
    same_some (sym (rw enough refl) ∙ told)
