-- Each event keeps a store sound.
use Rattle.std.proofs.Common.{true≢false, eq-eqb, ne_eqb, ◌≡◌, ◌≢◌, ℕ, zero, suc, ◌<◌, ◌≤◌, Bool, true, false, List, [], ◌∷◌, ◌++◌, ◌⊎◌, ◌==◌, if◌then◌else◌, set, Option, Some, None, sym, refl, ap, ◌∙◌, subst, inl, inr, ⊎_elim, arith}
use Rattle.std.proofs.lemmas.Bool.{cases_lt, cases_eq, cases_Bool}
use mathlib.Core.Option.{some, some-injective, some-ne-none}
use lib.ListN.{get_elem?}
use Rattle.board_core.specs.declared.actor.Actor.{Actor}
use Rattle.board_core.specs.declared.actor.Hand.{Hand}
use Rattle.board_core.specs.Lists.{IsIn, times, total}
use Rattle.board_core.specs.Sound.{Terms, Cells, HandIsDue, IsSound, Saw, holding, waiting, fresh, spot, Reaches}
use Rattle.board_core.specs.Events.{put, sees, takes, writes, publishes, learns, keeps_share, copy_of, joined, spent, placed, written, published, SawOther}
use Rattle.board_core.proofs.Parts.{Fits, fits_of, whole}
use Rattle.board_core.proofs.Lists.{is_in-left, is_in-right, is_in-append, total-set, total-same, total-append, term_le, terms_le, at_set, at_snoc, each_set, times-append, times-none, times-some, times-in, same_or_not}

-- an actor learns, and nothing else changes
pub learning : (t : Terms) (c : Cells) (vs : List Actor) (k : ℕ) (a w : Actor) → IsSound t c vs → get_elem? vs k ≡ some a
    → Fits t c w → w.share ≡ a.share → w.hand ≡ a.hand → w.made ≡ a.made → IsSound t c (set vs k w)
learning t c vs k a w h at fits share hand made = whole (record {
  codes = h.codes_once.0;
  once = h.codes_once.1;
  paths = h.paths_full;
  fits = each_set (Fits t c) vs k w fits (λ j u _ e. fits_of h j u e);
  filled = h.filled_is_due;
  hands = λ s. total-same (λ (x : Actor). holding s x.hand) vs k a w at (ap (holding s) hand) ∙ h.unfilled_in_one_hand s;
  shares = total-same (λ (x : Actor). x.share) vs k a w at share ∙ h.shares_add_up.1;
  made = λ s. total-same (λ (x : Actor). times s x.made) vs k a w at (ap (times s) made) ∙ h.made_once s;
  begun = h.start_stands;
})

alive : (b : Bool) {P : Type 0} → b ≡ true → b ≡ false → P
alive b {P} y n = absurd (true≢false (sym y ∙ n))

-- the hand of one who has seen no less
hand_more : (t : Terms) (c : Cells) (a w : Actor) → ((s : ℕ) → Saw a s → Saw w s) → (o : Option Hand) → HandIsDue t c a o → HandIsDue t c w o
hand_more t c a w more None h = tt
hand_more t c a w more (Some x) h = (h.0, more x.slot h.1, h.2)

saw_more : (a : Actor) (s x u : ℕ) → Saw a u → Saw (sees a s x) u
saw_more a s x u h = (h.0, inr h.1)

-- the actor after it has seen a code
fits_sees : (t : Terms) (c : Cells) (a : Actor) (s : ℕ) → Fits t c a → a.living ≡ true → c.code s ≢ 0 → Fits t c (sees a s (c.code s))
fits_sees t c a s f live n = record {
  seen = λ u x i. ⊎_elim
      (λ (e : (u, x) ≡ (s, c.code s)).
      let e0 : u ≡ s = ap (λ (p : ℕ × ℕ). p.0) e in
      let e1 : x ≡ c.code s = ap (λ (p : ℕ × ℕ). p.1) e in
      ((λ z. n (sym e1 ∙ z)), ap c.code e0 ∙ sym e1))
      (λ (j : IsIn (u, x) a.seen). f.seen u x j)
      i;
  known = λ u i. let k = f.known u i in (k.0, saw_more a s (c.code s) u k.1);
  hand = hand_more t c a (sees a s (c.code s)) (saw_more a s (c.code s)) a.hand f.hand;
  living = f.living;
  gone = λ g. alive a.living live g;
}

pub look_code : (t : Terms) (c : Cells) (vs : List Actor) (k : ℕ) (a : Actor) (s : ℕ) → IsSound t c vs → get_elem? vs k ≡ some a
    → a.living ≡ true → c.code s ≢ 0 → IsSound t c (set vs k (sees a s (c.code s)))
look_code t c vs k a s h at live n = learning t c vs k a (sees a s (c.code s)) h at (fits_sees t c a s (fits_of h k a at) live n) refl refl refl

fits_learns : (t : Terms) (c : Cells) (a : Actor) (s : ℕ) → Fits t c a → a.living ≡ true → c.state s ≢ 0 → Saw a s → Fits t c (learns a s)
fits_learns t c a s f live n saw = record {
  seen = f.seen;
  known = λ u i. ⊎_elim
      (λ (e : u ≡ s). ((λ z. n (ap c.state (sym e) ∙ z)), subst (Saw a) (sym e) saw))
      (λ (j : IsIn u a.known). f.known u j)
      i;
  hand = hand_more t c a (learns a s) (λ u h. h) a.hand f.hand;
  living = f.living;
  gone = λ g. alive a.living live g;
}

pub look_state : (t : Terms) (c : Cells) (vs : List Actor) (k : ℕ) (a : Actor) (s : ℕ) → IsSound t c vs → get_elem? vs k ≡ some a
    → a.living ≡ true → Saw a s → c.state s ≢ 0 → IsSound t c (set vs k (learns a s))
look_state t c vs k a s h at live saw n = learning t c vs k a (learns a s) h at (fits_learns t c a s (fits_of h k a at) live n saw) refl refl refl

-- what an actor that knows a slot filled reads there is the due word
pub read_word : (t : Terms) (c : Cells) (vs : List Actor) (k : ℕ) (a : Actor) (s at : ℕ) → IsSound t c vs → get_elem? vs k ≡ some a
    → IsIn s a.known → at < 11 → (x : ℕ) × IsIn (s, x) a.seen × (c.code s ≡ x) × (c.row s at ≡ t.due x at)
read_word t c vs k a s at h here known below =
    let f = fits_of h k a here in
    let kn = f.known s known in
    let x = kn.1.0 in
    let code : c.code s ≡ x = (f.seen s x kn.1.1).1 in
    (x, kn.1.1, code, (h.filled_is_due s kn.0).2 at below ∙ ap (λ (y : ℕ). t.due y at) code)

-- a code that would be placed here stands nowhere yet
pub absent : (t : Terms) (c : Cells) (vs : List Actor) (k : ℕ) (a : Actor) (s x : ℕ) → IsSound t c vs → get_elem? vs k ≡ some a
    → x ≢ 0 → c.code s ≡ 0 → Reaches t (SawOther a x) x s → (u : ℕ) → c.code u ≢ x
absent t c vs k a s x h at n free path u e =
    let there : Reaches t (λ v. c.code v ≢ 0) x u = subst (λ y. Reaches t (λ v. c.code v ≢ 0) y u) e (h.paths_full u (λ z. n (sym e ∙ z))) in
    ⊎_elim
    (λ (lt : path.0 < there.0). there.3 path.0 lt (ap c.code (sym path.2) ∙ free))
    (λ (ge : there.0 ≤ path.0). ⊎_elim
    (λ (lt : there.0 < path.0).
    let saw = path.3 there.0 lt in
    saw.2 (sym ((fits_of h k a at).seen (spot t x there.0) saw.0 saw.1).1 ∙ ap c.code (sym there.2) ∙ e))
    (λ (le : path.0 ≤ there.0).
    let same : path.0 ≡ there.0 = omega arith in
    n (sym e ∙ ap c.code (there.2 ∙ ap (spot t x) (sym same) ∙ sym path.2) ∙ free))
    (cases_lt there.0 path.0))
    (cases_lt path.0 there.0)

-- what holds at a number after one place is changed
pub each_put : {A : Type 0} (F : A → Type 0) (f : ℕ → A) (s : ℕ) (v : A) (u : ℕ) → (u ≡ s → F v) → (u ≢ s → F (f u)) → F (put f s v u)
each_put F f s v u hit miss = ⊎_elim
    (λ (e : u ≡ s). subst (λ (b : Bool). F (if b then v else f u)) (sym (eq-eqb u s e)) (hit e))
    (λ (n : u ≢ s). subst (λ (b : Bool). F (if b then v else f u)) (sym (ne_eqb u s n)) (miss n))
    (cases_eq u s)

pub put_here : {A : Type 0} (f : ℕ → A) (s : ℕ) (v : A) → put f s v s ≡ v
put_here f s v = each_put (λ y. y ≡ v) f s v s (λ _. refl) (λ n. absurd (n refl))

pub put_else : {A : Type 0} (f : ℕ → A) (s : ℕ) (v : A) (u : ℕ) → u ≢ s → put f s v u ≡ f u
put_else f s v u n = each_put (λ y. y ≡ f u) f s v u (λ e. absurd (n e)) (λ _. refl)

pub reaches_map : (t : Terms) (P Q : ℕ → Type 0) (x s : ℕ) → ((u : ℕ) → P u → Q u) → Reaches t P x s → Reaches t Q x s
reaches_map t P Q x s f r = (r.0, r.1, r.2, λ j lt. f (spot t x j) (r.3 j lt))

-- codes that stand still stand, what is filled is filled, and so what one has seen and knows holds
fits_later : (t : Terms) (c d : Cells) (b : Actor) → ((u : ℕ) → c.code u ≢ 0 → d.code u ≡ c.code u) → ((u : ℕ) → c.state u ≢ 0 → d.state u ≢ 0)
    → HandIsDue t d b b.hand → Fits t c b → Fits t d b
fits_later t c d b codes states hand f = record {
  seen = λ u x i. let o = f.seen u x i in (o.0, codes u (λ z. o.0 (sym o.1 ∙ z)) ∙ o.1);
  known = λ u i. let o = f.known u i in (states u o.0, o.1);
  hand = hand;
  living = f.living;
  gone = f.gone;
}

pub saw_code : (t : Terms) (c : Cells) (a : Actor) (s : ℕ) → Fits t c a → Saw a s → c.code s ≢ 0
saw_code t c a s f saw z = let o = f.seen s saw.0 saw.1 in o.0 (sym o.1 ∙ z)

-- a hand where only free slots got codes
hand_placed : (t : Terms) (c : Cells) (s x : ℕ) (b : Actor) → Fits t c b → c.code s ≡ 0 → (o : Option Hand) → HandIsDue t c b o → HandIsDue t (placed c s x) b o
hand_placed t c s x b f free None h = tt
hand_placed t c s x b f free (Some y) h = (h.0, h.1, λ at i. h.2 at i ∙ ap (λ z. t.due z at) (sym (put_else c.code s x y.slot (λ e. saw_code t c b y.slot f h.1 (ap c.code e ∙ free)))))

-- a code is placed in a free slot
pub place_free : (t : Terms) (c : Cells) (vs : List Actor) (k : ℕ) (a : Actor) (s x : ℕ) → IsSound t c vs → get_elem? vs k ≡ some a
    → a.living ≡ true → a.hand ≡ None → x ≢ 0 → IsIn x t.codes → c.code s ≡ 0 → Reaches t (SawOther a x) x s
    → IsSound t (placed c s x) (set vs k (takes a s x))
place_free t c vs k a s x h at live none n is_code free path = whole (record {
  codes = λ u. each_put (λ y. y ≢ 0 → (u < t.slots) × IsIn y t.codes) c.code s x u
      (λ e _. (subst (λ (v : ℕ). v < t.slots) (sym e) in_range, is_code))
      (λ _. h.codes_once.0 u);
  once = λ u v. each_put (λ y. y ≢ 0 → y ≡ code' v → u ≡ v) c.code s x u
      (λ eu. each_put (λ z. x ≢ 0 → x ≡ z → u ≡ v) c.code s x v (λ ev _ _. eu ∙ sym ev) (λ _ _ e. absurd (new v (sym e))))
      (λ _. each_put (λ z. c.code u ≢ 0 → c.code u ≡ z → u ≡ v) c.code s x v (λ ev _ e. absurd (new u e)) (λ _. h.codes_once.1 u v));
  paths = λ u. each_put (λ y. y ≢ 0 → Reaches t (λ v. code' v ≢ 0) y u) c.code s x u
      (λ e _. subst (Reaches t (λ v. code' v ≢ 0) x) (sym e) (reaches_map t (SawOther a x) (λ v. code' v ≢ 0) x s (λ v o. stays v (other v o)) path))
      (λ _ m. reaches_map t (λ v. c.code v ≢ 0) (λ v. code' v ≢ 0) (c.code u) u stays (h.paths_full u m));
  fits = each_set (Fits t d) vs k w mine (λ j u _ e. let f = fits_of h j u e in fits_later t c d u same (λ v o. o) (hand_placed t c s x u f free u.hand f.hand) f);
  filled = λ u m. let o = h.filled_is_due u m in (o.0, stays u o.1, λ i lt. o.2 i lt ∙ ap (λ y. t.due y i) (sym (same u o.1)));
  hands = λ u.
      let sum = total-set (λ (y : Actor). holding u y.hand) vs k a w at in
      let before : holding u a.hand ≡ 0 = ap (holding u) none in
      each_put (λ y. total (λ (z : Actor). holding u z.hand) (set vs k w) ≡ waiting y (c.state u)) c.code s x u
      (λ e.
      let was : total (λ (z : Actor). holding u z.hand) vs ≡ 0 = h.unfilled_in_one_hand u ∙ ap (λ y. waiting y (c.state u)) (ap c.code e ∙ free) in
      let now : holding u w.hand ≡ 1 = rw (eq-eqb u s e) refl in
      let should : waiting x (c.state u) ≡ 1 = rw (ne_eqb x 0 n, ap c.state e ∙ unfilled) refl in
      omega arith)
      (λ m. let now : holding u w.hand ≡ 0 = rw (ne_eqb u s m) refl in let was = h.unfilled_in_one_hand u in omega arith);
  shares = total-same (λ (y : Actor). y.share) vs k a w at refl ∙ h.shares_add_up.1;
  made = λ u.
      let sum = total-set (λ (y : Actor). times u y.made) vs k a w at in
      let more = times-append u a.made (s ∷ []) in
      each_put (λ y. total (λ (z : Actor). times u z.made) (set vs k w) ≡ fresh t.start y) c.code s x u
      (λ e.
      let was : total (λ (z : Actor). times u z.made) vs ≡ 0 = h.made_once u ∙ ap (fresh t.start) (ap c.code e ∙ free) in
      let now : times u (s ∷ []) ≡ 1 = rw (eq-eqb u s e) refl in
      let should : fresh t.start x ≡ 1 = rw (ne_eqb x 0 n, times-none x t.start (λ i. let b = h.start_stands x i in new b.0 b.1)) refl in
      omega arith)
      (λ m. let now : times u (s ∷ []) ≡ 0 = rw (ne_eqb u s m) refl in let was = h.made_once u in omega arith);
  begun = λ y i. let b = h.start_stands y i in (b.0, same b.0 (λ z. b.2 (sym b.1 ∙ z)) ∙ b.1, b.2);
})
  where
    d : Cells
    d = placed c s x

    code' : ℕ → ℕ
    code' = put c.code s x

    w : Actor
    w = takes a s x

    new : (u : ℕ) → c.code u ≢ x
    new = absent t c vs k a s x h at n free path

    in_range : s < t.slots
    in_range = let e = path.2 in let lt = path.1 in omega arith

    unfilled : c.state s ≡ 0
    unfilled = ⊎_elim (λ (e : c.state s ≡ 0). e) (λ (m : c.state s ≢ 0). absurd ((h.filled_is_due s m).1 free)) (cases_eq (c.state s) 0)

    same : (u : ℕ) → c.code u ≢ 0 → put c.code s x u ≡ c.code u
    same u m = put_else c.code s x u (λ e. m (ap c.code e ∙ free))

    stays : (u : ℕ) → c.code u ≢ 0 → put c.code s x u ≢ 0
    stays u m = each_put (λ y. y ≢ 0) c.code s x u (λ _. n) (λ _. m)

    other : (u : ℕ) → SawOther a x u → c.code u ≢ 0
    other u o = saw_code t c a u (fits_of h k a at) (o.0, o.1)

    mine : Fits t (placed c s x) (takes a s x)
    mine = let f = fits_of h k a at in record {
      seen = λ u y i. ⊎_elim
          (λ (e : (u, y) ≡ (s, x)).
          let e0 : u ≡ s = ap (λ (p : ℕ × ℕ). p.0) e in
          let e1 : y ≡ x = ap (λ (p : ℕ × ℕ). p.1) e in
          ((λ z. n (sym e1 ∙ z)), ap (put c.code s x) e0 ∙ put_here c.code s x ∙ sym e1))
          (λ (j : IsIn (u, y) a.seen). let o = f.seen u y j in (o.0, same u (λ z. o.0 (sym o.1 ∙ z)) ∙ o.1))
          i;
      known = λ u i. let o = f.known u i in (o.0, saw_more a s x u o.1);
      hand = (unfilled, (x, inl refl), λ i z. elim z [ ]);
      living = f.living;
      gone = λ g. alive a.living live g;
    }

-- no other hand has the slot
apart : (t : Terms) (c : Cells) (vs : List Actor) (k j : ℕ) (a b : Actor) (hd y : Hand) → IsSound t c vs → get_elem? vs k ≡ some a → get_elem? vs j ≡ some b → j ≢ k
    → a.hand ≡ Some hd → b.hand ≡ Some y → y.slot ≢ hd.slot
apart t c vs k j a b hd y h at there n mine theirs e =
    let s = hd.slot in
    let sum = terms_le (λ (x : Actor). holding s x.hand) vs k j a b n at there in
    let one : holding s a.hand ≡ 1 = ap (holding s) mine ∙ rw (eq-eqb s s refl) refl in
    let two : holding s b.hand ≡ 1 = ap (holding s) theirs ∙ rw (eq-eqb s y.slot (sym e)) refl in
    let most = waiting_le (c.code s) (c.state s) in
    let all = h.unfilled_in_one_hand s in
    omega arith
  where
    waiting_le : (x y : ℕ) → waiting x y ≤ 1
    waiting_le x y = same_or_not (λ n. n ≤ 1) x 0 0 (if y == 0 then 1 else 0) (λ _. omega arith) (λ _. same_or_not (λ n. n ≤ 1) y 0 1 0 (λ _. omega arith) (λ _. omega arith))

pub in_hand : (t : Terms) (c : Cells) (a : Actor) (hd : Hand) → Fits t c a → a.hand ≡ Some hd → HandIsDue t c a (Some hd)
in_hand t c a hd f e = subst (HandIsDue t c a) e f.hand

hand_written : (t : Terms) (c : Cells) (s at v : ℕ) (b : Actor) (o : Option Hand) → ((y : Hand) → o ≡ Some y → y.slot ≢ s) → HandIsDue t c b o → HandIsDue t (written c s at v) b o
hand_written t c s at v b None n h = tt
hand_written t c s at v b (Some y) n h = (h.0, h.1, λ i m. ap (λ (f : ℕ → ℕ). f i) (put_else c.row s (put (c.row s) at v) y.slot (n y refl)) ∙ h.2 i m)

-- a due word is written into the slot in hand
pub write_word : (t : Terms) (c : Cells) (vs : List Actor) (k : ℕ) (a : Actor) (hd : Hand) (at : ℕ) → IsSound t c vs → get_elem? vs k ≡ some a
    → a.living ≡ true → a.hand ≡ Some hd
    → IsSound t (written c hd.slot at (t.due (c.code hd.slot) at)) (set vs k (writes a hd.slot hd.written at))
write_word t c vs k a hd at h here live e = whole (record {
  codes = h.codes_once.0;
  once = h.codes_once.1;
  paths = h.paths_full;
  fits = each_set (Fits t d) vs k w mine (λ j u n there. let f = fits_of h j u there in fits_later t c d u (λ _ _. refl) (λ v o. o) (hand_written t c s at v u u.hand (λ y is. apart t c vs k j a u hd y h here there n e is) f.hand) f);
  filled = λ u m. let o = h.filled_is_due u m in (o.0, o.1, λ i lt. ap (λ (f : ℕ → ℕ). f i) (put_else c.row s (put (c.row s) at v) u (λ eu. m (ap c.state eu ∙ mark.0))) ∙ o.2 i lt);
  hands = λ u. total-same (λ (x : Actor). holding u x.hand) vs k a w here (sym (ap (holding u) e)) ∙ h.unfilled_in_one_hand u;
  shares = total-same (λ (x : Actor). x.share) vs k a w here refl ∙ h.shares_add_up.1;
  made = λ u. total-same (λ (x : Actor). times u x.made) vs k a w here refl ∙ h.made_once u;
  begun = h.start_stands;
})
  where
    s : ℕ
    s = hd.slot

    v : ℕ
    v = t.due (c.code hd.slot) at

    d : Cells
    d = written c s at v

    w : Actor
    w = writes a hd.slot hd.written at

    mark : HandIsDue t c a (Some hd)
    mark = in_hand t c a hd (fits_of h k a here) e

    mine : Fits t (written c hd.slot at (t.due (c.code hd.slot) at)) (writes a hd.slot hd.written at)
    mine = let f = fits_of h k a here in record {
      seen = f.seen;
      known = f.known;
      hand = (
        mark.0,
        mark.1,
        λ i m. ap (λ (g : ℕ → ℕ). g i) (put_here c.row s (put (c.row s) at v)) ∙ each_put (λ y. y ≡ t.due (c.code s) i) (c.row s) at v i
            (λ eq. ap (t.due (c.code s)) (sym eq))
            (λ ne. ⊎_elim (λ (x : i ≡ at). absurd (ne x)) (λ (x : IsIn i hd.written). mark.2 i x) m),
      );
      living = f.living;
      gone = λ g. alive a.living live g;
    }

hand_published : (t : Terms) (c : Cells) (s : ℕ) (b : Actor) (o : Option Hand) → ((y : Hand) → o ≡ Some y → y.slot ≢ s) → HandIsDue t c b o → HandIsDue t (published c s) b o
hand_published t c s b None n h = tt
hand_published t c s b (Some y) n h = (put_else c.state s 1 y.slot (n y refl) ∙ h.0, h.1, h.2)

-- the slot in hand, whose words are all written, is filled
pub publish : (t : Terms) (c : Cells) (vs : List Actor) (k : ℕ) (a : Actor) (hd : Hand) → IsSound t c vs → get_elem? vs k ≡ some a
    → a.living ≡ true → a.hand ≡ Some hd → ((at : ℕ) → at < 11 → IsIn at hd.written)
    → IsSound t (published c hd.slot) (set vs k (publishes a hd.slot))
publish t c vs k a hd h here live e all = whole (record {
  codes = h.codes_once.0;
  once = h.codes_once.1;
  paths = h.paths_full;
  fits = each_set (Fits t d) vs k w mine (λ j u n there. let f = fits_of h j u there in fits_later t c d u (λ _ _. refl) stays (hand_published t c s u u.hand (λ y is. apart t c vs k j a u hd y h here there n e is) f.hand) f);
  filled = λ u. each_put (λ y. y ≢ 0 → (y ≡ 1) × (c.code u ≢ 0) × ((at : ℕ) → at < 11 → c.row u at ≡ t.due (c.code u) at)) c.state s 1 u
      (λ eu _. (refl, (λ z. coded (ap c.code (sym eu) ∙ z)), λ i lt. subst (λ (v : ℕ). c.row v i ≡ t.due (c.code v) i) (sym eu) (mark.2 i (all i lt))))
      (λ _. h.filled_is_due u);
  hands = λ u.
      let sum = total-set (λ (y : Actor). holding u y.hand) vs k a w here in
      each_put (λ y. total (λ (z : Actor). holding u z.hand) (set vs k w) ≡ waiting (c.code u) y) c.state s 1 u
      (λ eu.
      let was : total (λ (z : Actor). holding u z.hand) vs ≡ 1 = h.unfilled_in_one_hand u ∙ rw (ap c.code eu, ne_eqb (c.code s) 0 coded, ap c.state eu, mark.0) refl in
      let before : holding u a.hand ≡ 1 = ap (holding u) e ∙ rw (eq-eqb u s eu) refl in
      let should : waiting (c.code u) 1 ≡ 0 = waiting_none (c.code u) in
      omega arith)
      (λ m. let before : holding u a.hand ≡ 0 = ap (holding u) e ∙ rw (ne_eqb u s m) refl in let was = h.unfilled_in_one_hand u in omega arith);
  shares = total-same (λ (x : Actor). x.share) vs k a w here refl ∙ h.shares_add_up.1;
  made = λ u. total-same (λ (x : Actor). times u x.made) vs k a w here refl ∙ h.made_once u;
  begun = h.start_stands;
})
  where
    s : ℕ
    s = hd.slot

    d : Cells
    d = published c s

    w : Actor
    w = publishes a hd.slot

    mark : HandIsDue t c a (Some hd)
    mark = in_hand t c a hd (fits_of h k a here) e

    coded : c.code hd.slot ≢ 0
    coded = saw_code t c a hd.slot (fits_of h k a here) mark.1

    stays : (u : ℕ) → c.state u ≢ 0 → put c.state hd.slot 1 u ≢ 0
    stays u m = each_put (λ y. y ≢ 0) c.state hd.slot 1 u (λ _ z. omega arith) (λ _. m)

    waiting_none : (x : ℕ) → waiting x 1 ≡ 0
    waiting_none x = same_or_not (λ n. n ≡ 0) x 0 0 0 (λ _. refl) (λ _. refl)

    mine : Fits t (published c hd.slot) (publishes a hd.slot)
    mine = let f = fits_of h k a here in record {
      seen = f.seen;
      known = λ u i. ⊎_elim
          (λ (eu : u ≡ s). ((λ z. let one : put c.state s 1 u ≡ 1 = ap (put c.state s 1) eu ∙ put_here c.state s 1 in omega arith), subst (Saw a) (sym eu) mark.1))
          (λ (j : IsIn u a.known). let o = f.known u j in (stays u o.0, o.1))
          i;
      hand = tt;
      living = f.living;
      gone = λ g. alive a.living live g;
    }

hand_of : (t : Terms) (c : Cells) (a w : Actor) → w.seen ≡ a.seen → (o : Option Hand) → HandIsDue t c a o → HandIsDue t c w o
hand_of t c a w e = hand_more t c a w (λ s saw. (saw.0, subst (IsIn (s, saw.0)) (sym e) saw.1))

-- a seat is split
pub split : (t : Terms) (c : Cells) (vs : List Actor) (k : ℕ) (a : Actor) (part : ℕ) → IsSound t c vs → get_elem? vs k ≡ some a
    → a.living ≡ true → 0 < part → part < a.share
    → IsSound t c (set vs k (keeps_share a part) ++ copy_of a part ∷ [])
split t c vs k a part h here live some_part less = whole (record {
  codes = h.codes_once.0;
  once = h.codes_once.1;
  paths = h.paths_full;
  fits = λ j u e. ⊎_elim
      (λ (old : get_elem? (set vs k w) j ≡ some u). each_set (Fits t c) vs k w mine (λ i x _ there. fits_of h i x there) j u old)
      (λ (same : n ≡ u). subst (Fits t c) same theirs)
      (at_snoc (set vs k w) n u j e);
  filled = h.filled_is_due;
  hands = λ s.
      let f : Actor → ℕ = λ x. holding s x.hand in
      let sum = total-append f (set vs k w) (n ∷ []) in let one = total-same f vs k a w here refl in let was = h.unfilled_in_one_hand s in omega arith;
  shares =
      let f : Actor → ℕ = λ x. x.share in
      let sum = total-append f (set vs k w) (n ∷ []) in let one = total-set f vs k a w here in let was = h.shares_add_up.1 in omega arith;
  made = λ s.
      let f : Actor → ℕ = λ x. times s x.made in
      let sum = total-append f (set vs k w) (n ∷ []) in let one = total-same f vs k a w here refl in let was = h.made_once s in omega arith;
  begun = h.start_stands;
})
  where
    w : Actor
    w = keeps_share a part

    n : Actor
    n = copy_of a part

    mine : Fits t c (keeps_share a part)
    mine = let f = fits_of h k a here in record { seen = f.seen; known = f.known; hand = hand_of t c a (keeps_share a part) refl a.hand f.hand; living = λ _. omega arith; gone = λ g. alive a.living live g }

    theirs : Fits t c (copy_of a part)
    theirs = let f = fits_of h k a here in record { seen = f.seen; known = f.known; hand = tt; living = λ _. some_part; gone = λ g. alive true refl g }

-- a seat is joined, and the other is spent
pub join : (t : Terms) (c : Cells) (vs : List Actor) (k j : ℕ) (a b : Actor) → IsSound t c vs → get_elem? vs k ≡ some a → j ≢ k
    → get_elem? (set vs k (joined a b)) j ≡ some b
    → a.living ≡ true → b.living ≡ true → b.hand ≡ None
    → IsSound t c (set (set vs k (joined a b)) j spent)
join t c vs k j a b h here ne there' live live' none = whole (record {
  codes = h.codes_once.0;
  once = h.codes_once.1;
  paths = h.paths_full;
  fits = each_set (Fits t c) ws j spent gone (λ i u _ e. each_set (Fits t c) vs k w mine (λ l x _ at. fits_of h l x at) i u e);
  filled = h.filled_is_due;
  hands = λ s.
      let f : Actor → ℕ = λ x. holding s x.hand in
      let one = total-same f vs k a w here refl in let two = total-same f ws j b spent there' (sym (ap (holding s) none)) in let was = h.unfilled_in_one_hand s in omega arith;
  shares =
      let f : Actor → ℕ = λ x. x.share in
      let one = total-set f vs k a w here in let two = total-set f ws j b spent there' in let was = h.shares_add_up.1 in omega arith;
  made = λ s.
      let f : Actor → ℕ = λ x. times s x.made in
      let one = total-set f vs k a w here in let two = total-set f ws j b spent there' in let both = times-append s a.made b.made in let was = h.made_once s in omega arith;
  begun = h.start_stands;
})
  where
    w : Actor
    w = joined a b

    ws : List Actor
    ws = set vs k (joined a b)

    there : get_elem? vs j ≡ some b
    there = ⊎_elim (λ (x : (j ≡ k) × (joined a b ≡ b)). absurd (ne x.0)) (λ (x : (j ≢ k) × (get_elem? vs j ≡ some b)). x.1) (at_set vs k j (joined a b) b there')

    gone : Fits t c spent
    gone = record { seen = λ s x i. elim i [ ]; known = λ s i. elim i [ ]; hand = tt; living = λ e. alive false e refl; gone = λ _. (refl, refl, refl, refl, refl) }

    saws : (s : ℕ) → Saw a s → Saw (joined a b) s
    saws s o = (o.0, is_in-left (s, o.0) a.seen b.seen o.1)

    saws' : (s : ℕ) → Saw b s → Saw (joined a b) s
    saws' s o = (o.0, is_in-right (s, o.0) a.seen b.seen o.1)

    mine : Fits t c (joined a b)
    mine = let f = fits_of h k a here in let g = fits_of h j b there in record {
      seen = λ s x i. ⊎_elim (λ (l : IsIn (s, x) a.seen). f.seen s x l) (λ (r : IsIn (s, x) b.seen). g.seen s x r) (is_in-append (s, x) a.seen b.seen i);
      known = λ s i. ⊎_elim (λ (l : IsIn s a.known). let o = f.known s l in (o.0, saws s o.1)) (λ (r : IsIn s b.known). let o = g.known s r in (o.0, saws' s o.1)) (is_in-append s a.known b.known i);
      hand = hand_more t c a (joined a b) saws a.hand f.hand;
      living = λ _. let p = f.living live in omega arith;
      gone = λ g. alive a.living live g;
    }

none_of : (f g : Actor → ℕ) (vs : List Actor) → total f vs ≡ 0 → ((x : Actor) (j : ℕ) → get_elem? vs j ≡ some x → f x ≡ 0 → g x ≡ 0) → total g vs ≡ 0
none_of f g [] e z = refl
none_of f g (x ∷ xs) e z = let one = z x zero refl (omega arith) in let rest = none_of f g xs (omega arith) (λ y j i. z y (suc j) i) in omega arith

only_rest : (f g : Actor → ℕ) (vs : List Actor) (k : ℕ) (a : Actor) → get_elem? vs k ≡ some a → total f vs ≡ f a
    → ((x : Actor) (j : ℕ) → get_elem? vs j ≡ some x → f x ≡ 0 → g x ≡ 0) → total g vs ≡ g a
only_rest f g [] k a at e z = absurd (some-ne-none a (sym at))
only_rest f g (x ∷ xs) zero a at e z =
    let here : x ≡ a = some-injective x a at in
    let rest : total f xs ≡ 0 = let s = ap f here in omega arith in
    let none = none_of f g xs rest (λ y j i. z y (suc j) i) in
    let s = ap g here in omega arith
only_rest f g (x ∷ xs) (suc k) a at e z =
    let le = term_le f xs k a at in
    let none = z x zero refl (omega arith) in
    let rest = only_rest f g xs k a at (omega arith) (λ y j i. z y (suc j) i) in omega arith

-- with the whole share and nothing in hand, each placed code is filled
pub whole_filled : (t : Terms) (c : Cells) (vs : List Actor) (k : ℕ) (a : Actor) (s : ℕ) → IsSound t c vs → get_elem? vs k ≡ some a
    → a.share ≡ 64 → a.hand ≡ None → c.code s ≢ 0 → c.state s ≢ 0
whole_filled t c vs k a s h at whole none coded z =
    let f : Actor → ℕ = λ x. x.share in
    let g : Actor → ℕ = λ x. holding s x.hand in
    let only = only_rest f g vs k a at (h.shares_add_up.1 ∙ sym whole) (λ x j i e. idle t c x s (fits_of h j x i) e) in
    let all : total g vs ≡ waiting (c.code s) (c.state s) = h.unfilled_in_one_hand s in
    let one : waiting (c.code s) (c.state s) ≡ 1 = rw (ne_eqb (c.code s) 0 coded, z) refl in
    let nil : g a ≡ 0 = ap (holding s) none in
    omega arith
  where
    idle : (t : Terms) (c : Cells) (x : Actor) (s : ℕ) → Fits t c x → x.share ≡ 0 → holding s x.hand ≡ 0
    idle t c x s f e = ⊎_elim (λ (y : x.living ≡ true). let p = f.living y in absurd (omega arith)) (λ (n : x.living ≡ false). ap (holding s) (f.gone n).4) (cases_Bool x.living)

pub fresh_cases : (start : List ℕ) (x : ℕ) → (fresh start x ≤ 1) × (fresh start x ≢ 0 → times x start ≡ 0) × (x ≢ 0 → times x start ≡ 0 → fresh start x ≡ 1)
fresh_cases start x = same_or_not (λ n. (n ≤ 1) × (n ≢ 0 → times x start ≡ 0) × (x ≢ 0 → times x start ≡ 0 → n ≡ 1)) x 0 0 (if times x start == 0 then 1 else 0)
    (λ z. (omega arith, (λ n. absurd (n refl)), λ n. absurd (n z)))
    (λ _. same_or_not (λ n. (n ≤ 1) × (n ≢ 0 → times x start ≡ 0) × (x ≢ 0 → times x start ≡ 0 → n ≡ 1)) (times x start) 0 1 0
    (λ z. (omega arith, (λ _. z), λ _ _. refl))
    (λ m. (omega arith, (λ n. absurd (n refl)), λ _ z. absurd (m z))))

-- an actor took no slot twice
pub made_once : (t : Terms) (c : Cells) (vs : List Actor) (k : ℕ) (a : Actor) (s : ℕ) → IsSound t c vs → get_elem? vs k ≡ some a → times s a.made ≤ 1
made_once t c vs k a s h at = let le = term_le (λ (x : Actor). times s x.made) vs k a at in let all = h.made_once s in let f = (fresh_cases t.start (c.code s)).0 in omega arith

-- a slot that an actor took has no code of the start
pub made_new : (t : Terms) (c : Cells) (vs : List Actor) (k : ℕ) (a : Actor) (s : ℕ) → IsSound t c vs → get_elem? vs k ≡ some a → IsIn s a.made → times (c.code s) t.start ≡ 0
made_new t c vs k a s h at i =
    let le = term_le (λ (x : Actor). times s x.made) vs k a at in let all = h.made_once s in let some = times-in s a.made i in
    (fresh_cases t.start (c.code s)).1 (λ z. omega arith)

-- with the whole share, each placed slot is of the start or was taken
pub whole_made : (t : Terms) (c : Cells) (vs : List Actor) (k : ℕ) (a : Actor) (s : ℕ) → IsSound t c vs → get_elem? vs k ≡ some a → a.share ≡ 64 → c.code s ≢ 0
    → IsIn (c.code s) t.start ⊎ IsIn s a.made
whole_made t c vs k a s h at whole coded =
    let f : Actor → ℕ = λ x. x.share in
    let g : Actor → ℕ = λ x. times s x.made in
    let only = only_rest f g vs k a at (h.shares_add_up.1 ∙ sym whole) (λ x j i e. idle x (fits_of h j x i) e) in
    let all : total g vs ≡ fresh t.start (c.code s) = h.made_once s in
    ⊎_elim
    (λ (z : times (c.code s) t.start ≡ 0).
    let one = (fresh_cases t.start (c.code s)).2 coded z in
    inr (times-some s a.made (λ n. let m : g a ≡ 0 = n in omega arith)))
    (λ (n : times (c.code s) t.start ≢ 0). inl (times-some (c.code s) t.start n))
    (cases_eq (times (c.code s) t.start) 0)
  where
    idle : (x : Actor) → Fits t c x → x.share ≡ 0 → times s x.made ≡ 0
    idle x f e = ⊎_elim (λ (y : x.living ≡ true). let p = f.living y in absurd (omega arith)) (λ (n : x.living ≡ false). ap (times s) (f.gone n).3) (cases_Bool x.living)

pub share_most : (t : Terms) (c : Cells) (vs : List Actor) (k : ℕ) (a : Actor) → IsSound t c vs → get_elem? vs k ≡ some a → a.share ≤ 64
share_most t c vs k a h at = let le = term_le (λ (x : Actor). x.share) vs k a at in let all = h.shares_add_up.1 in omega arith
