-- The small machine does what the printed D-LRU does, so that the search gives the counts of the printed D-LRU.
use mathlib.Core.Path.{◌≡◌, refl, sym, ap, ap₂, ◌∙◌}
use mathlib.Core.Bool.{Bool, ◌&&◌, ◌||◌}
use mathlib.Core.List.{List, [], ◌∷◌, ◌++◌, map, map-append}
use Prim.Native.Nat.{ℕ, zero, suc, ◌≤◌, ◌<◌}
use native.Mathlib.Omega.{arith}
use lib.Dec.{eqb}
use lib.ListN.{length, length-map, drop}
use Rattle.paper.specs.Keyed.{has, without}
use Rattle.paper.specs.KeyedLaws.{All, Distinct, by-test, eqb→≡, eqb-self}
use Rattle.paper.specs.Machines.{put, Printed, printed_next, printed_hit}
use Rattle.exam.specs.declared.search.State.{State}
use Rattle.exam.specs.declared.search.Question.{Question}
use Rattle.exam.specs.Scores.{start, plus, moved, summed, search, scores}
use Rattle.exam.specs.ScoreLaws.{search-scores}
use Rattle.exam.specs.Small.{empty, pick, hit_small, next_small, searched}
use Rattle.exam.proofs.SmallLaws.{Holds, of0, has-four, put_four_lem, put_all, put-distinct, put-length}

-- A list of keys told by others: f gives the key, and equal keys are told alike
module _ {F : Type 0} (same : F → F → Bool) (f : ℕ → F) where
  -- c tells the key g, of the keys of the list
  abbrev Tells : ℕ → F → ℕ → Type 0
  Tells c g x = same g (f x) ≡ eqb c x

  has-told : (c : ℕ) (g : F) (cs : List ℕ) → All (Tells c g) cs → has same (λ x. x) g (map f cs) ≡ has eqb (λ x. x) c cs
  has-told c g [] t = refl
  has-told c g (x ∷ cs) t = ap₂ ◌||◌ t.0 (has-told c g cs t.1)

  without-told : (c : ℕ) (g : F) (cs : List ℕ) → All (Tells c g) cs → without same (λ x. x) g (map f cs) ≡ map f (without eqb (λ x. x) c cs)
  without-told c g [] t = refl
  without-told c g (x ∷ cs) t =
      by-test (eqb c x)
      (λ e. rw (t.0, e) (without-told c g cs t.1))
      (λ e. rw (t.0, e) (ap {B = List F} (λ l. f x ∷ l) (without-told c g cs t.1)))

  drop-told : (cs : List ℕ) → drop 1 (map f cs) ≡ map f (drop 1 cs)
  drop-told [] = refl
  drop-told (x ∷ cs) = refl

  put-told : (n c : ℕ) (g : F) (cs : List ℕ) → f c ≡ g → All (Tells c g) cs → put same n g (map f cs) ≡ map f (put eqb n c cs)
  unfolding put
  put-told n c g cs e t =
      let snoc : (l : List ℕ) → map f l ++ (g ∷ []) ≡ map f (l ++ (c ∷ [])) = λ l. ap (λ z. map f l ++ (z ∷ [])) (sym e) ∙ sym (map-append f l (c ∷ [])) in
      rw (has-told c g cs t) (by-test (has eqb (λ x. x) c cs)
      (λ h. rw h (ap (λ l. l ++ (g ∷ [])) (without-told c g cs t) ∙ snoc (without eqb (λ x. x) c cs)))
      (λ h. rw (h, length-map cs f) (by-test (eqb (length cs) n)
      (λ i. rw i (ap (λ l. l ++ (g ∷ [])) (drop-told cs) ∙ snoc (drop 1 cs)))
      (λ i. rw i (snoc cs)))))

-- The content of each address, told by a number below 4: the first address that has it
pub record Contents {F : Type 0} (same : F → F → Bool) (content : ℕ → F) (q : Question) : Type 0 where
  pub few : q.blocks ≤ 4
  pub small : (a : ℕ) → a < q.blocks → pick q.contents a < 4
  pub tells : (a : ℕ) → a < q.blocks → content (pick q.contents a) ≡ content a
  pub apart : (a b : ℕ) → a < q.blocks → b < q.blocks → same (content a) (content b) ≡ eqb (pick q.contents a) (pick q.contents b)

module _ {F : Type 0} (same : F → F → Bool) (content : ℕ → F) (q : Question) (cq : Contents same content q)
    (m1 : 1 ≤ q.rows) (d1 : 1 ≤ q.slots) where
  -- a number in the cached list is that of some address
  abbrev Some : ℕ → Type 0
  Some c = (a : ℕ) × ((a < q.blocks) × (c ≡ pick q.contents a))

  record Same (s : State) (p : Printed F) : Type 0 where
    held_is : Holds s.held p.addresses
    held_small : All (λ x. x < 4) p.addresses
    held_distinct : Distinct eqb (λ x. x) p.addresses
    held_most : length p.addresses ≤ q.rows
    told : List ℕ
    told_is : p.fingerprints ≡ map content told
    told_some : All Some told
    cached_is : Holds s.cached told
    cached_small : All (λ x. x < 4) told
    cached_distinct : Distinct eqb (λ x. x) told
    cached_most : length told ≤ q.slots

  all_tell : (a : ℕ) → a < q.blocks → (cs : List ℕ) → All Some cs → All (Tells same content (pick q.contents a) (content a)) cs
  all_tell a l [] w = tt
  all_tell a l (c ∷ cs) w =
      let x = w.0.1 in
      let alike = ap (λ z. same (content a) (content z)) x.1 ∙ ap (same (content a)) (cq.tells w.0.0 x.0) in
      (alike ∙ cq.apart a w.0.0 l x.0 ∙ ap (eqb (pick q.contents a)) (sym x.1), all_tell a l cs w.1)

  hit_same : (s : State) (p : Printed F) (a : ℕ) → a < q.blocks → Same s p → hit_small s a (pick q.contents a) ≡ printed_hit same content p a
  unfolding hit_small printed_hit
  hit_same s p a l v =
      let c = pick q.contents a in
      let f = cq.few in
      ap₂ ◌&&◌ (has-four a (omega arith) v.held_is)
      (has-four c (cq.small a l) v.cached_is ∙ sym (has-told same content c (content a) v.told (all_tell a l v.told v.told_some))
      ∙ ap (has same (λ x. x) (content a)) (sym v.told_is))

  next-same : (s : State) (p : Printed F) (a : ℕ) → a < q.blocks → Same s p
      → Same (next_small q s a (pick q.contents a)) (printed_next same q.rows q.slots content p a)
  unfolding next_small printed_next
  next-same s p a l v =
      let c = pick q.contents a in
      let f = cq.few in
      let a4 : a < 4 = omega arith in
      let m = q.rows in
      let d = q.slots in
      record {
        held_is = put_four_lem m a a4 m1 v.held_is v.held_small v.held_distinct v.held_most;
        held_small = put_all eqb eqb→≡ eqb-self m a (λ x. x < 4) p.addresses v.held_small a4;
        held_distinct = put-distinct eqb eqb→≡ eqb-self m a p.addresses v.held_distinct;
        held_most = put-length eqb eqb→≡ eqb-self m a p.addresses m1 v.held_most;
        told = put eqb d c v.told;
        told_is = ap (put same d (content a)) v.told_is
            ∙ put-told same content d c (content a) v.told (cq.tells a l) (all_tell a l v.told v.told_some);
        told_some = put_all eqb eqb→≡ eqb-self d c Some v.told v.told_some (a, (l, refl));
        cached_is = put_four_lem d c (cq.small a l) d1 v.cached_is v.cached_small v.cached_distinct v.cached_most;
        cached_small = put_all eqb eqb→≡ eqb-self d c (λ x. x < 4) v.told v.cached_small (cq.small a l);
        cached_distinct = put-distinct eqb eqb→≡ eqb-self d c v.told v.cached_distinct;
        cached_most = put-length eqb eqb→≡ eqb-self d c v.told d1 v.cached_most;
      }

  summed-same : (f g : ℕ → List ℕ) (n : ℕ) → ((a : ℕ) → a < n → f a ≡ g a) → summed f n ≡ summed g n
  summed-same f g zero e = refl
  summed-same f g (suc n) e = ap₂ plus (summed-same f g n (λ a l. e a (omega arith))) (e n (omega arith))

  search-same : (k : ℕ) (s : State) (p : Printed F) → Same s p → searched q s k ≡ search same q.rows q.slots content q.blocks p k
  unfolding searched search
  search-same zero s p v = refl
  search-same (suc k) s p v =
      let next : ℕ → State = λ a. next_small q s a (pick q.contents a) in
      let after : ℕ → Printed F = printed_next same q.rows q.slots content p in
      summed-same (λ a. moved (hit_small s a (pick q.contents a)) (searched q (next a) k))
      (λ a. moved (printed_hit same content p a) (search same q.rows q.slots content q.blocks (after a) k)) q.blocks
      (λ a l. ap₂ moved (hit_same s p a l v) (search-same k (next a) (after a) (next-same s p a l v)))

  -- the search from fresh gives the counts of the printed D-LRU
  pub searched-scores : (k : ℕ) → searched q empty k ≡ scores same q.rows q.slots content q.blocks k
  searched-scores k =
      search-same k empty start
      (record {
        held_is = of0;
        held_small = tt;
        held_distinct = tt;
        held_most = omega arith;
        told = [];
        told_is = refl;
        told_some = tt;
        cached_is = of0;
        cached_small = tt;
        cached_distinct = tt;
        cached_most = omega arith;
      })
      ∙ search-scores same q.rows q.slots content q.blocks k
