-- The ten conditions of a sound store, put together by actor.
use Rattle.std.proofs.Common.{◌≡◌, ◌≢◌, ℕ, ◌<◌, true, false, List, [], None}
use mathlib.Core.Option.{some}
use lib.ListN.{get_elem?}
use Rattle.board_core.specs.declared.actor.Actor.{Actor}
use Rattle.board_core.specs.Lists.{IsIn, times, total}
use Rattle.board_core.specs.Sound.{Terms, Cells, Saw, Reaches, holding, waiting, fresh, HandIsDue, IsSound}

-- what holds of one actor
pub record Fits (t : Terms) (c : Cells) (a : Actor) : Type 0 where
  pub seen : (s x : ℕ) → IsIn (s, x) a.seen → (x ≢ 0) × (c.code s ≡ x)
  pub known : (s : ℕ) → IsIn s a.known → (c.state s ≢ 0) × Saw a s
  pub hand : HandIsDue t c a a.hand
  pub living : a.living ≡ true → 0 < a.share
  pub gone : a.living ≡ false → (a.share ≡ 0) × (a.seen ≡ []) × (a.known ≡ []) × (a.made ≡ []) × (a.hand ≡ None)

pub record Parts (t : Terms) (c : Cells) (vs : List Actor) : Type 0 where
  pub codes : (s : ℕ) → c.code s ≢ 0 → (s < t.slots) × IsIn (c.code s) t.codes
  pub once : (s u : ℕ) → c.code s ≢ 0 → c.code s ≡ c.code u → s ≡ u
  pub paths : (s : ℕ) → c.code s ≢ 0 → Reaches t (λ u. c.code u ≢ 0) (c.code s) s
  pub fits : (k : ℕ) (a : Actor) → get_elem? vs k ≡ some a → Fits t c a
  pub filled : (s : ℕ) → c.state s ≢ 0 → (c.state s ≡ 1) × (c.code s ≢ 0) × ((at : ℕ) → at < 11 → c.row s at ≡ t.due (c.code s) at)
  pub hands : (s : ℕ) → total (λ (a : Actor). holding s a.hand) vs ≡ waiting (c.code s) (c.state s)
  pub shares : total (λ (a : Actor). a.share) vs ≡ 64
  pub made : (s : ℕ) → total (λ (a : Actor). times s a.made) vs ≡ fresh t.start (c.code s)
  pub begun : (x : ℕ) → IsIn x t.start → (s : ℕ) × (c.code s ≡ x) × (x ≢ 0)

pub fits_of : {t : Terms} {c : Cells} {vs : List Actor} → IsSound t c vs → (k : ℕ) (a : Actor) → get_elem? vs k ≡ some a → Fits t c a
fits_of h k a at = record {
  seen = h.seen_stands k a at;
  known = h.known_is_filled k a at;
  hand = h.hand_is_due k a at;
  living = (h.shares_add_up.0 k a at).0;
  gone = (h.shares_add_up.0 k a at).1;
}

pub whole : {t : Terms} {c : Cells} {vs : List Actor} → Parts t c vs → IsSound t c vs
whole p = record {
  codes_once = (p.codes, p.once);
  paths_full = p.paths;
  seen_stands = λ k a at. (p.fits k a at).seen;
  filled_is_due = p.filled;
  known_is_filled = λ k a at. (p.fits k a at).known;
  hand_is_due = λ k a at. (p.fits k a at).hand;
  unfilled_in_one_hand = p.hands;
  shares_add_up = ((λ k a at. ((p.fits k a at).living, (p.fits k a at).gone)), p.shares);
  made_once = p.made;
  start_stands = p.begun;
}
