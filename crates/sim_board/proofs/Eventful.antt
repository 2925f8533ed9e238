-- Each atomic step of the table is its event.
use Rattle.std.proofs.Common.{eq-eqb, ne_eqb, ◌≡◌, ◌≢◌, ℕ, ◌+◌, ◌^◌, ◌<◌, Bool, true, false, List, [], ◌∷◌, ◌++◌, ◌==◌, if◌then◌else◌, set, map, Some, None, sym, refl, ap, ◌∙◌, subst}
use Rattle.std.specs.Prelude.{slice_index, slice_set}
use Rattle.std.proofs.lemmas.List.{map-set, map-append, set-get_or}
use Rattle.board_core.specs.declared.actor.Actor.{Actor}
use Rattle.board_core.specs.declared.actor.Hand.{Hand}
use Rattle.board_core.specs.declared.row.KeptRow.{KeptRow}
use Rattle.board_core.specs.declared.event.Event.TheVariants.{LookCode, PlaceCode, WriteWord, Publish, LookState, ReadWord, Split, Join}
use Rattle.board_core.specs.Lists.{IsIn}
use Rattle.board_core.specs.Sound.{Saw, Reaches}
use Rattle.board_core.specs.Events.{sees, takes, writes, publishes, learns, keeps_share, copy_of, joined, spent, written, SawOther}
use Rattle.board_core.specs.Rows.{terms, codes_of, due_word}
use Rattle.board_core.proofs.Parts.{fits_of}
use Rattle.atomic_table.specs.Table.{Step}
use Rattle.sim_board.specs.declared.view.View.{View}
use Rattle.sim_board.specs.Standing.{base, cells_of, actor_of, view_with, slot_of, at_of, looked, placed_at, wrote, learned, spent_view, Looks, Places, Writes, Publishes, LooksState, ReadsWord}
use Rattle.sim_board.specs.EventSteps.{Running, IsEvent, HasSeat, StepsAreEvents}
use Rattle.sim_board.proofs.Allowed.{at_actor, slot_of-base, cells-placed}
use Rattle.sim_board.proofs.RowSteps.{slot_of-state, at_of-row, ltb-of, cells-written, cells-published, hand_slot, writes_wrote}

-- the actors after a view changed
actors_set : (views : List View) (id : ℕ) (w : View) (a : Actor) → w.actor ≡ a → map actor_of (slice_set views id w) ≡ slice_set (map actor_of views) id a
actors_set views id w a e = map-set actor_of views id w ∙ ap (λ (x : Actor). set (map actor_of views) id x) e

looked_actor : (v : View) (s found : ℕ) → (looked v s found).actor ≡ (if found == 0 then v.actor else sees v.actor s found)
looked_actor v s found = by (found == 0)
  where
    by : (b : Bool) → (if b then v else view_with v (sees v.actor s found)).actor ≡ (if b then v.actor else sees v.actor s found)
    by true = refl
    by false = refl

learned_actor : (v : View) (s found : ℕ) → (learned v s found).actor ≡ (if found == 0 then v.actor else learns v.actor s)
learned_actor v s found = by (found == 0)
  where
    by : (b : Bool) → (if b then v else view_with v (learns v.actor s)).actor ≡ (if b then v.actor else learns v.actor s)
    by true = refl
    by false = refl

-- a living actor has a share
has_share : (r : Running) (id : ℕ) (v : View) → HasSeat r id v → 0 < v.actor.share
has_share r id v h = (fits_of h.stands.sound id v.actor (at_actor r.views id v h.at)).living h.living

pub looks_event : (r : Running) (id : ℕ) (v w : View) (c d : List (ℕ × Unit)) (st : Step Unit) (s : ℕ) → HasSeat r id v → st.word ≡ base s → Looks st (v, c) (slice_index r.words (base s)) (w, d)
    → IsEvent r (LookCode id s) (slice_index r.words (base s)) r.words (slice_set r.views id w)
looks_event r id v w c d st s h at p =
    let found : ℕ = slice_index r.words (base s) in
    let view : w ≡ looked v s found = p.0 ∙ ap (λ u. looked v u found) (ap slot_of at ∙ slot_of-base s) in
    (v.actor, at_actor r.views id v h.at, h.living, refl, (refl, actors_set r.views id w (if found == 0 then v.actor else sees v.actor s found) (ap actor_of view ∙ looked_actor v s found)))

pub places_event : (r : Running) (id : ℕ) (v w : View) (c d : List (ℕ × Unit)) (st : Step Unit) (s x : ℕ) → HasSeat r id v → st.word ≡ base s → st.second ≡ x
    → v.actor.hand ≡ None → IsIn x (codes_of v.rows) → s < 2 ^ r.bits → Reaches (terms r.bits v.rows v.start) (SawOther v.actor x) x s → Places st (v, c) (slice_index r.words (base s)) (w, d)
    → IsEvent r (PlaceCode id s x) (slice_index r.words (base s)) (slice_set r.words (base s) (if slice_index r.words (base s) == 0 then x else slice_index r.words (base s))) (slice_set r.views id w)
places_event r id v w c d st s x h at second none is_code lt path p =
    let found : ℕ = slice_index r.words (base s) in
    let t = h.stands.told id v h.at h.living in
    let view : w ≡ placed_at v s x found = p.0 ∙ (λ i. placed_at v ((ap slot_of at ∙ slot_of-base s) i) (second i) found) in
    let words : Bool → List ℕ = λ b. set r.words (base s) (if b then x else found) in
    let placed' : Bool → View = λ b. if b then view_with v (takes v.actor s x) else view_with v (sees v.actor s found) in (
      v.actor,
      at_actor r.views id v h.at,
      has_share r id v h,
      none,
      subst (λ (l : List KeptRow). IsIn x (codes_of l)) t.0 is_code,
      path,
      refl,
      (λ z. (
        ap (λ (b : Bool). cells_of (words b)) (eq-eqb found 0 z) ∙ cells-placed r.words (2 ^ r.bits) s x h.stands.count lt,
        actors_set r.views id w (takes v.actor s x) (ap actor_of (view ∙ ap placed' (eq-eqb found 0 z))),
      )),
      (λ n. (
        ap (λ (b : Bool). cells_of (words b)) (ne_eqb found 0 n) ∙ ap cells_of (set-get_or r.words (base s) 0),
        actors_set r.views id w (sees v.actor s found) (ap actor_of (view ∙ ap placed' (ne_eqb found 0 n))),
      )),
    )

pub writes_event : (r : Running) (id : ℕ) (v w : View) (c d : List (ℕ × Unit)) (st : Step Unit) (hd : Hand) (x at : ℕ) → HasSeat r id v → st.word ≡ base hd.slot + 2 + at
    → v.actor.hand ≡ Some hd → IsIn (hd.slot, x) v.actor.seen → at < 11 → Writes st (v, c) (due_word v.rows x at) (w, d)
    → IsEvent r (WriteWord id hd.slot at) 0 (slice_set r.words (base hd.slot + 2 + at) (due_word v.rows x at)) (slice_set r.views id w)
writes_event r id v w c d st hd x at h word mine saw lt p =
    let s : ℕ = hd.slot in
    let t = h.stands.told id v h.at h.living in
    let me = at_actor r.views id v h.at in
    let vs : List Actor = map actor_of r.views in
    let n : ℕ = due_word v.rows x at in
    let code : slice_index r.words (base s) ≡ x = ((fits_of h.stands.sound id v.actor me).seen s x saw).1 in
    let same : n ≡ due_word r.rows (slice_index r.words (base s)) at = sym (ap (λ (y : ℕ). due_word r.rows y at) code ∙ ap (λ (l : List KeptRow). due_word l x at) (sym t.0)) in
    let inside = hand_slot r.bits r.rows r.start (cells_of r.words) vs id v.actor hd h.stands.sound me mine in
    let view : w ≡ view_with v (wrote v.actor at) = p.0 ∙ ap (λ k. view_with v (wrote v.actor k)) (ap at_of word ∙ at_of-row s at lt) in (
      v.actor,
      hd,
      me,
      mine,
      refl,
      lt,
      cells-written r.words (2 ^ r.bits) s at n h.stands.count inside lt ∙ ap (λ (k : ℕ). written (cells_of r.words) s at k) same,
      actors_set r.views id w (writes v.actor s hd.written at) (ap actor_of view ∙ sym (writes_wrote v.actor hd at mine)),
    )

pub publishes_event : (r : Running) (id : ℕ) (v w : View) (c d : List (ℕ × Unit)) (st : Step Unit) (hd : Hand) → HasSeat r id v → st.word ≡ base hd.slot + 1
    → v.actor.hand ≡ Some hd → ((at : ℕ) → at < 11 → IsIn at hd.written) → Publishes st (v, c) 1 (w, d)
    → IsEvent r (Publish id hd.slot) 0 (slice_set r.words (base hd.slot + 1) 1) (slice_set r.views id w)
publishes_event r id v w c d st hd h word mine all p =
    let s : ℕ = hd.slot in
    let me = at_actor r.views id v h.at in
    let vs : List Actor = map actor_of r.views in
    let inside = hand_slot r.bits r.rows r.start (cells_of r.words) vs id v.actor hd h.stands.sound me mine in
    let view : w ≡ view_with v (publishes v.actor s) = p.0 ∙ ap (λ k. view_with v (publishes v.actor k)) (ap slot_of word ∙ slot_of-state s) in
    (v.actor, hd, me, mine, refl, all, cells-published r.words (2 ^ r.bits) s h.stands.count inside, actors_set r.views id w (publishes v.actor s) (ap actor_of view))

pub looks_state_event : (r : Running) (id : ℕ) (v w : View) (c d : List (ℕ × Unit)) (st : Step Unit) (s : ℕ) → HasSeat r id v → st.word ≡ base s + 1 → Saw v.actor s
    → LooksState st (v, c) (slice_index r.words (base s + 1)) (w, d)
    → IsEvent r (LookState id s) (slice_index r.words (base s + 1)) r.words (slice_set r.views id w)
looks_state_event r id v w c d st s h word saw p =
    let found : ℕ = slice_index r.words (base s + 1) in
    let view : w ≡ learned v s found = p.0 ∙ ap (λ u. learned v u found) (ap slot_of word ∙ slot_of-state s) in
    (v.actor, at_actor r.views id v h.at, h.living, saw, refl, (refl, actors_set r.views id w (if found == 0 then v.actor else learns v.actor s) (ap actor_of view ∙ learned_actor v s found)))

pub reads_event : (r : Running) (id : ℕ) (v w : View) (c d : List (ℕ × Unit)) (st : Step Unit) (s at : ℕ) → HasSeat r id v → st.word ≡ base s + 2 + at → IsIn s v.actor.known → at < 11
    → ReadsWord st (v, c) (slice_index r.words (base s + 2 + at)) (w, d)
    → IsEvent r (ReadWord id s at) (slice_index r.words (base s + 2 + at)) r.words (slice_set r.views id w)
reads_event r id v w c d st s at h word known lt p =
    let n : ℕ = slice_index r.words (base s + 2 + at) in
    (v.actor, at_actor r.views id v h.at, known, lt, sym (ap (λ (b : Bool). if b then n else 0) (ltb-of at 11 lt)), (refl, actors_set r.views id w v.actor (ap (λ (m : View × List (ℕ × Unit)). m.0.actor) p.0)))

pub splits_event : (r : Running) (id : ℕ) (v : View) (part : ℕ) → HasSeat r id v → 0 < part → part < v.actor.share
    → IsEvent r (Split id part) 0 r.words (slice_set r.views id (view_with v (keeps_share v.actor part)) ++ view_with v (copy_of v.actor part) ∷ [])
splits_event r id v part h some_part less =
    let l : View = view_with v (keeps_share v.actor part) in
    let n : View = view_with v (copy_of v.actor part) in
    (v.actor, at_actor r.views id v h.at, h.living, some_part, less, refl, map-append actor_of (set r.views id l) (n ∷ []) ∙ ap (λ (xs : List Actor). xs ++ n.actor ∷ []) (map-set actor_of r.views id l))

pub joins_event : (r : Running) (id other : ℕ) (v w : View) → HasSeat r id v → HasSeat r other w → other ≢ id → w.actor.hand ≡ None
    → IsEvent r (Join id other) 0 r.words (slice_set (slice_set r.views id (view_with v (joined v.actor w.actor))) other spent_view)
joins_event r id other v w h g ne none =
    let b : View = view_with v (joined v.actor w.actor) in (
      v.actor,
      w.actor,
      at_actor r.views id v h.at,
      at_actor r.views other w g.at,
      ne,
      h.living,
      g.living,
      none,
      refl,
      map-set actor_of (set r.views id b) other spent_view ∙ ap (λ (xs : List Actor). set xs other spent) (map-set actor_of r.views id b),
    )

pub steps_are_events : StepsAreEvents
steps_are_events = record {
  looks = looks_event;
  places = places_event;
  writes = writes_event;
  publishes = publishes_event;
  looks_state = looks_state_event;
  reads = reads_event;
  splits = splits_event;
  joins = joins_event;
  tells = λ v w c d st found p. ap (λ (m : View × List (ℕ × Unit)). m.0) p.0;
}
