-- The hits of a list of reads in the printed D-LRU are the engine's: the counts are over the engine's own answers.
use Rattle.std.specs.Prelude.{◌≡◌, Bool, ℕ, ◌+◌, ◌*◌, ◌^◌, ◌≤◌, ◌<◌, length}
use Rattle.std.proofs.Math.Path.{refl, ap, subst}
use Rattle.std.proofs.Common.{sym, ap₂, ◌∙◌, arith, le_trans, le-ltb}
use Rattle.std.proofs.Math.Bool.{true, false, cond}
use mathlib.Core.List.{List, [], ◌∷◌, ◌++◌, map}
use Rattle.std.proofs.Math.Option.{Option, none, some}
use Rattle.paper.specs.KeyedLaws.{All}
use Rattle.paper.specs.Cache.{Numbers, Word, hit, miss, same_block, new_block, from_cache, from_disk, done, Counters}
use Rattle.paper.specs.Engine.{labelled}
use Rattle.paper.specs.Lent.{Lent, Ask, opening, calling, unfit, limit_outside, FewDirty, box_in, over, refusal, call, opened}
use Rattle.paper.specs.LentLaws.{Passes}
use Rattle.paper.proofs.LentLaws.{sound-passes}
use Rattle.paper.specs.BatchLent.{one, served_in_turn}
use Rattle.paper.proofs.BatchLentLaws.{only-9-between}
use Rattle.paper.specs.Machines.{Printed, printed_next, printed_hit}
use Rattle.paper.specs.Demand3.{refusals}
use Rattle.paper.specs.Demand3Laws.{Written}
use Rattle.paper.proofs.Demand3Laws.{next-written}
use Rattle.paper.proofs.RefusalLaws.{exactly-opening}
use Rattle.paper.proofs.CallLaws.{fits, outcome-few, served-box, adds-few}
use Rattle.counting.specs.Told.{tell}
use Rattle.counting.specs.TellHit.{words, NoneRefused, content_in}
use Rattle.counting.proofs.TellHitLaws.{Follows, printed-told, follows_next, follows-none, tell-hit}
use Rattle.exam.specs.Scores.{how_many, start, hits}

-- an answer that is a hit
abbrev pub is_hit : Option Word → Bool
is_hit none = false
is_hit (some hit) = true
is_hit (some miss) = false
is_hit (some same_block) = false
is_hit (some new_block) = false
is_hit (some from_cache) = false
is_hit (some from_disk) = false
is_hit (some done) = false

module _ {F : Type 0} (same : F → F → Bool) (same→≡ : (f g : F) → same f g ≡ true → f ≡ g) (same_refl : (f : F) → same f f ≡ true)
    (m d : ℕ) (content : ℕ → F) where
  told-hits : (past rest : List ℕ) (p : Printed F) → 1 ≤ m → 1 ≤ d → Follows same same→≡ same_refl m d content past p
      → how_many is_hit (map some (tell same m d content past rest)) ≡ hits same m d content p rest
  unfolding tell hits
  told-hits past [] p m1 d1 v = refl
  told-hits past (a ∷ rest) p m1 d1 v =
      let e = printed-told same same→≡ same_refl m d content past p a v in
      let next = printed_next same m d content p a in
      let n = told-hits (past ++ (a ∷ [])) rest next m1 d1 (follows_next same same→≡ same_refl m d content past p a m1 d1 v) in
      ap (λ b. how_many is_hit (some (cond b hit miss) ∷ map some (tell same m d content (past ++ (a ∷ [])) rest))) (sym e)
      ∙ first (printed_hit same content p a) (map some (tell same m d content (past ++ (a ∷ [])) rest))
      ∙ ap (λ k. k + cond (printed_hit same content p a) 1 0) n
    where
      first : (b : Bool) (ws : List (Option Word)) → how_many is_hit (some (cond b hit miss) ∷ ws) ≡ how_many is_hit ws + cond b 1 0
      first true ws = refl
      first false ws = refl

-- for every list of reads from fresh, none refused, the engine's hits are those of the printed D-LRU that the counts are of
pub engine-hits : (N : Numbers) (t : Lent) (rs : List (ℕ × List ℕ)) → refusal N t opening ≡ 0 → NoneRefused N (opened N t) rs
    → how_many is_hit (words N (opened N t) rs) ≡ hits (labelled N).same N.m N.d (content_in N t) start (map (λ r. r.0) rs)
engine-hits N t rs opens w =
    let H = labelled N in
    let f = fits N ((exactly-opening N t).gives-0.0 opens).0 in
    ap (how_many is_hit) (tell-hit N t rs opens w)
    ∙ told-hits H.same H.same→≡ H.same_refl N.m N.d (content_in N t) [] (map (λ r. r.0) rs) start f.m-least f.d-least
    (follows-none H.same H.same→≡ H.same_refl N.m N.d (content_in N t))

-- ---- no read of such a list is refused, so that the counts are those of the engine's own answers
-- every counter is at most c
abbrev AtMost : ℕ → Counters → Type 0
AtMost c k = (k.reads ≤ c) × (k.hits ≤ c) × (k.flash_writes ≤ c) × (k.primary_writes ≤ c)

not_full : (c : ℕ) (k : Counters) → c ≤ 2 ^ 63 → AtMost c k → over k ≡ false
unfolding over
not_full c k h w =
    rw (
      le-ltb (2 ^ 63) k.reads (le_trans w.0 h),
      le-ltb (2 ^ 63) k.hits (le_trans w.1 h),
      le-ltb (2 ^ 63) k.flash_writes (le_trans w.2 h),
      le-ltb (2 ^ 63) k.primary_writes (le_trans w.3 h),
    ) refl

-- a list of addresses as reads that are lent one block
abbrev pub reads_of : (block : List ℕ) → List ℕ → List (ℕ × List ℕ)
reads_of block l = map (λ a. (a, block)) l

pub addresses-back : (block : List ℕ) (l : List ℕ) → map (λ (r : ℕ × List ℕ). r.0) (reads_of block l) ≡ l
addresses-back block [] = refl
addresses-back block (a ∷ l) = ap (λ r. a ∷ r) (addresses-back block l)

module _ (N : Numbers) (block : List ℕ) (fit : unfit N ≡ false) (limit : limit_outside N ≡ false)
    (label : length N.label ≡ 64) (whole : length block ≡ N.B) where
  pub none-refused : (l : List ℕ) (u : Lent) (c : ℕ) → Written N u → FewDirty N (box_in N u) → AtMost c u.counters → All (λ a. a < N.P) l
      → c + length l * 1025 ≤ 2 ^ 63
      → NoneRefused N u (reads_of block l)
  unfolding refusals served_in_turn
  none-refused [] u c r d w b h = tt
  none-refused (a ∷ l) u c r d w b h =
      let f = fits N fit in
      let p : Passes N u = subst (Passes N) (sym r.3) (sound-passes N r.0 r.2 r.1 f.P-most f.d-most) in
      let m = f.m-most in
      let e : refusal N u (calling (Ask.read a block)) ≡ 0
      = only-9-between N u [] a block fit limit label p d tt b.0 whole ∙ rw (not_full c u.counters (omega arith) w) refl in
      let g = adds-few N u (Ask.read a block) e in
      let more : AtMost (c + 1025) (call N u (Ask.read a block)).lent.counters
      = (
        omega (arith, w.0, g.reads.1),
        omega (arith, w.1, g.hits.1),
        omega (arith, w.2, g.flash_writes.1),
        omega (arith, w.3, g.primary_writes.1),
      ) in (
        e,
        none-refused l (call N u (Ask.read a block)).lent (c + 1025) (next-written N u (one (Ask.read a block)) r)
            (subst (FewDirty N) (sym (served-box N u (Ask.read a block) e)) (outcome-few N u (Ask.read a block) e)) more b.1 (omega arith),
      )

pub many-same : {A : Type 0} (s t : A → Bool) (xs : List A) → All (λ x. s x ≡ t x) xs → how_many s xs ≡ how_many t xs
many-same s t [] w = refl
many-same s t (x ∷ xs) w = ap₂ (λ n b. n + cond b 1 0) (many-same s t xs w.1) w.0

-- the hits that the engine answers to a list of addresses, from fresh
abbrev pub engine_hits : Numbers → Lent → (block : List ℕ) → List ℕ → ℕ
engine_hits N t block l = how_many is_hit (words N (opened N t) (reads_of block l))
