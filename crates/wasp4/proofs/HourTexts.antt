-- What is written of hourly loads, and the words that ask for it.
use Rattle.std.proofs.Common.{◌≡◌, ◌∙◌, refl, sym, ap, subst, ℕ, ◌<◌, Bool, true, List, [], ◌∷◌, ◌++◌, length, Option, None, Some, inl, inr, codes, arith}
use Rattle.std.specs.Prelude.{IfSome, Ok, Err, if◌then◌else◌}
use Rattle.std.specs.Io.KnownBytes.{Appends, Keeps}
use Rattle.std.specs.Str.{bytes_eq}
use Rattle.std.proofs.lemmas.Bool.{cases_Bool}
use Rattle.std.proofs.lemmas.List.{length-append}
use Rattle.std.proofs.lemmas.Slice.Eq.{bytes_eq-Decides}
use Rattle.deck_lines.specs.Words.{number_of}
use Rattle.deck_lines.specs.declared.fault.LineFault.{LineFault}
use Rattle.hourly_load.specs.Hours.{IsHourly}
use Rattle.hourly_load.specs.Texts.{hourly_text}
use Rattle.hourly_load.specs.declared.shape.Hourly.{Hourly}
use Rattle.report_text.specs.Refusals.{malformed_line}
use Rattle.wasp_io.specs.Causes.{Rose}
use Rattle.wasp_io.specs.Known.{IsSureWithin}
use Rattle.wasp4.specs.declared.status.Ending.{Ending}
use Rattle.wasp4.specs.declared.status.Ending.TheVariants as endings
use Rattle.wasp4.specs.Hours.{AnswersHours, CutsHours, HasRoomForHours, SaysHours, loads_of}
use Rattle.wasp4.specs.Out.{accepted, asked_by, asked_of_two, hours_points, points_behind, points_within, with_engines}
use Rattle.wasp4.specs.declared.asked.Asked.{Asked}
use Rattle.wasp4.specs.Progress.{IsCutShort, status_of}

pub says_shape : (points : ℕ) (before : Option (List ℕ)) (loads text more : List ℕ) (h : Hourly) → IfSome before (λ t. loads_of t ≡ Ok loads) → IsHourly loads points h → text ≡ [] → more ≡ text ++ hourly_text h → SaysHours points before more endings.Done
says_shape points before loads text more h is hourly clear e = record {
  hours = Ok loads;
  is = is;
  text = (h, hourly, e ∙ ap (λ (t : List ℕ). t ++ hourly_text h) clear);
  ends = (loads, refl);
}

pub says_fault : (points : ℕ) (before : Option (List ℕ)) (number : ℕ) (f : LineFault) (text more : List ℕ) → IfSome before (λ t. loads_of t ≡ Err (record { line = number; fault = f })) → text ≡ [] → more ≡ text ++ malformed_line number f
    → SaysHours points before more endings.Malformed
says_fault points before number f text more is clear e = record {
  hours = Err (record { line = number; fault = f });
  is = is;
  text = e ∙ ap (λ (t : List ℕ). t ++ malformed_line number f) clear;
  ends = (record { line = number; fault = f }, refl);
}

pub keeps_same : (w : Option (List ℕ)) → Keeps w w
keeps_same None = tt
keeps_same (Some w) = refl

-- the whole text was put
pub closes : (points : ℕ) (before now written written' : Option (List ℕ)) (said : List ℕ) (ending : Ending) → SaysHours points before said ending → Appends written written' said → AnswersHours points before now written written' (status_of ending)
closes points before now written written' said endings.Done says wrote = record { said = said; says = says; wrote = wrote }
closes points before now written written' said endings.CheckNo says wrote = absurd says.ends
closes points before now written written' said endings.Malformed says wrote = record { said = said; says = says; wrote = wrote }

pub cuts : (points : ℕ) (before written written' : Option (List ℕ)) (said : List ℕ) (ending : Ending) → SaysHours points before said ending → IsCutShort written written' said → CutsHours points before written written'
cuts points before written written' said ending says cut = record { said = said; ending = ending; says = says; cut = cut }

-- ---- the words

-- what `hours` asks for is not asked for by `best`
not_best : (word number : List ℕ) (points : ℕ) → points_behind word number ≡ Some points → asked_of_two word number ≡ None
not_best word number points e =
    elim (cases_Bool (bytes_eq word (codes "hours"))) [
      | inl is ↦ subst (λ (w : List ℕ). asked_of_two w number ≡ None) (sym (same_word word (codes "hours") is)) refl
      | inr other ↦ absurd (none_some points (sym (ap (λ (b : Bool). if b then points_within (number_of number) else None) other) ∙ e))
    ]
  where
    same_word : (xs ys : List ℕ) → bytes_eq xs ys ≡ true → xs ≡ ys
    same_word xs ys is = grind (arith, bytes_eq-Decides xs ys)

    none_some : (n : ℕ) → None ≡ Some n → ⊥
    none_some n h = cc

-- they ask for no script
two_words : (words : List (List ℕ)) (points : ℕ) → hours_points words ≡ Some points → asked_by words ≡ None
two_words [] points e = refl
two_words (word ∷ []) points e = absurd cc
two_words (word ∷ number ∷ []) points e = not_best word number points e
two_words (word ∷ number ∷ other ∷ words) points e = absurd cc

pub no_script : (words : List (List ℕ)) (engines points : ℕ) → hours_points words ≡ Some points → accepted words engines ≡ None
no_script words engines points e = ap (with_engines engines) (two_words words points e)

pub no_command : {P : Type 0} (words : List (List ℕ)) (engines points : ℕ) (asked : Asked) → hours_points words ≡ Some points → accepted words engines ≡ Some asked → P
no_command {P} words engines points asked e taken = absurd (let none = no_script words engines points e in cc)

-- the points that the words ask for are one number
pub same_points : (result : Option ℕ) (asked : Option ℕ) (one other : ℕ) → result ≡ Some one → result ≡ asked → asked ≡ Some other → one ≡ other
same_points result asked one other is by has = cc

pub no_points : {P : Type 0} (result asked : Option ℕ) (points : ℕ) → result ≡ None → result ≡ asked → asked ≡ Some points → P
no_points {P} result asked points is by has = absurd cc

-- ---- a sink with room for the text does not fail

pub of_told : (a : Option (List ℕ)) (bytes : List ℕ) (P : List ℕ → Type 0) → a ≡ Some bytes → IfSome a P → P bytes
of_told a bytes P is h = let told : IfSome (Some bytes) P = subst (λ (x : Option (List ℕ)). IfSome x P) is h in told

pub wrote_is : (a b : Option (List ℕ)) (before said : List ℕ) → a ≡ Some before → ((bytes : List ℕ) × (b ≡ Some bytes)) → Appends a b said → b ≡ Some (before ++ said)
wrote_is a b before said was told wrote =
    let appends : Appends (Some before) (Some told.0) said = subst (λ (x : Option (List ℕ)). Appends x (Some told.0) said) was (subst (λ (x : Option (List ℕ)). Appends a x said) told.1 wrote) in
    told.1 ∙ ap (λ (x : List ℕ). Some x) appends

pub never_cut : (points : ℕ) (left a b : Option (List ℕ)) (room : Option ℕ) (f g : ℕ) → HasRoomForHours points left a room → ((r : ℕ) → room ≡ Some r → IsSureWithin r b g) → CutsHours points left a b → Rose f g → ⊥
never_cut points left a b room f g has sure short rose =
    let within = sure has.most has.sure in
    let cut = short.cut in
    let now : List ℕ = has.before ++ cut.done in
    let wrote : b ≡ Some now = wrote_is a b has.before cut.done has.wrote within.told cut.wrote in
    let fits = has.fits short.said short.ending short.says in
    let fewer : length now < has.most = omega (arith, fits, ap length cut.is, length-append cut.done (cut.next ∷ cut.rest), length-append has.before cut.done) in
    let none : g ≡ 0 = of_told b now (λ bytes. length bytes < has.most → g ≡ 0) wrote within.no_fault fewer in
    absurd (omega (arith, none, rose))
