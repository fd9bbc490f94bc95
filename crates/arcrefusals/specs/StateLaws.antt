-- 6, 7, 8 and 13 of tables and lists, test by test. Assumes nothing.
use Rattle.std.specs.Prelude.{◌≡◌, Bool, true, false, not, ◌&&◌, ◌||◌, cond, List, [], ◌∷◌, map, ℕ, zero, suc, ◌+◌, ◌*◌, ◌≤◌, ◌<◌, eqb, length, drop}
use Rattle.std.proofs.Math.Path.{refl}
use Rattle.std.proofs.Common.{sym, ap, ◌∙◌, arith}
use Rattle.std.proofs.Math.Dec.{ltb}
use Rattle.std.specs.Prelude.{Result, Ok, Err}
use Rattle.refusal.specs.declared.Refusal.{Refusal}
use Rattle.refusal.specs.declared.Refusal.TheVariants.{Outside, WrongLength, NoAddress, Unformed, BoxTooLarge, BadAddresses, BadBlocks}
use Rattle.refusal.specs.declared.Refusal.TheVariants.{DirtyUncached, CounterFull, BadCount}
use Rattle.refusal.specs.declared.Refusal.TheVariants.{ArcOutside, BadLimit, TooDirty, NoRoom, NoImage, BadImage, TooLarge}
use Rattle.refusal.specs.Numbers.{number_of}
use borrow.Author.Tests.{eq-eqb, le-leb, ltb-false, not-true, not-false}
use Rattle.tables.specs.Rows.{HasRows, rows, row_at, le4, table_bytes}
use Rattle.tables.specs.Records.{read_address, held_rows}
use Rattle.tables.specs.Find.{all, any}
use Rattle.tables.specs.Unsound.{elem, nonzero, addresses_unsound, blocks_unsound, dirty_uncached, tables_refused}
use Rattle.tables.specs.Sound.{distinct, row_address, addresses_fit, blocks_fit}
use Rattle.tables.specs.SoundLaws.{addrs-below}
use Rattle.table_laws.specs.KeptAddresses.{Addrs}
use Rattle.table_laws.specs.Promises.{refused-is}
use Rattle.paper.specs.KeyedLaws.{by-test, and_left, and_right, or_right, or-false-left, or-false-right}
use Rattle.paper.specs.Cache.{Counters}
use Rattle.paper.specs.Engine.{labelled}
use Rattle.paper.specs.Lent.{as_held, box_in, first}
use Rattle.paper.proofs.SoundTestsLaws.{addresses-good}
use Rattle.arc.specs.Arc.{Sizes, m_of, base_numbers, is_in}
use Rattle.arc.specs.ArcLent.{words, total_of, misnamed, oversized, lists_unsound, top_uncached, tops_in, arc_table_tests}
use Rattle.arclists.specs.Names.{possible, fine}
use Rattle.arclists.specs.NameLaws.{distinct-once, rows-below, names-tell}
use Rattle.arclists.specs.Holding.{rec_of}
use Rattle.refusals.specs.Given.{lent}
use Rattle.refusals.specs.Checks.{over_in}
use Rattle.arcrefusals.specs.declared.ArcRecord.{ArcRecord}
use Rattle.arcrefusals.specs.Given.{sizes_of, base_of, arc_lent}
use Rattle.arcrefusals.specs.Checks.{Fits, sound_refusal}

-- the first names of fine ones are fine
elem-words : (x k n : ℕ) (t : List ℕ) → k ≤ n → elem x (words n t) ≡ false → elem x (words k t) ≡ false
unfolding words elem
elem-words x zero n t h e = refl
elem-words x (suc k) zero t h e = absurd (omega (arith, h))
elem-words x (suc k) (suc n) t h e =
    let r = eqb x (le4 t 0) in
    rw (or-false-left r (elem x (words n (drop 4 t))) e) (elem-words x k n (drop 4 t) (omega (arith, h)) (or-false-right r (elem x (words n (drop 4 t))) e))

distinct-words : (k n : ℕ) (t : List ℕ) → k ≤ n → distinct (words n t) ≡ true → distinct (words k t) ≡ true
unfolding words distinct
distinct-words zero n t h e = refl
distinct-words (suc k) zero t h e = absurd (omega (arith, h))
distinct-words (suc k) (suc n) t h e =
    let r = not (elem (le4 t 0) (words n (drop 4 t))) in
    let q = distinct (words n (drop 4 t)) in
    rw (elem-words (le4 t 0) k n (drop 4 t) (omega (arith, h)) (not-true (elem (le4 t 0) (words n (drop 4 t))) (and_left r q e)))
    (distinct-words k n (drop 4 t) (omega (arith, h)) (and_right r q e))

possible-words : (k n : ℕ) (t : List ℕ) → k ≤ n → all possible (words n t) ≡ true → all possible (words k t) ≡ true
unfolding words all
possible-words zero n t h e = refl
possible-words (suc k) zero t h e = absurd (omega (arith, h))
possible-words (suc k) (suc n) t h e =
    let r = possible (le4 t 0) in
    let q = all possible (words n (drop 4 t)) in
    rw (and_left r q e) (possible-words k n (drop 4 t) (omega (arith, h)) (and_right r q e))

fine-words : (k n : ℕ) (t : List ℕ) → k ≤ n → fine (words n t) ≡ true → fine (words k t) ≡ true
unfolding fine
fine-words k n t h e =
    let r = all possible (words n t) in
    let q = distinct (words n t) in
    rw (possible-words k n t h (and_left r q e), distinct-words k n t h (and_right r q e)) refl

-- 6 is the number of one refusal
pub six-is : {A : Type 0} (r : Result A Refusal) → number_of r ≡ 6 → r ≡ Err BadAddresses
six-is (Ok x) e = absurd (omega (arith, e))
six-is (Err Outside) e = absurd (omega (arith, e))
six-is (Err WrongLength) e = absurd (omega (arith, e))
six-is (Err NoAddress) e = absurd (omega (arith, e))
six-is (Err Unformed) e = absurd (omega (arith, e))
six-is (Err BoxTooLarge) e = absurd (omega (arith, e))
six-is (Err BadAddresses) e = refl
six-is (Err BadBlocks) e = absurd (omega (arith, e))
six-is (Err DirtyUncached) e = absurd (omega (arith, e))
six-is (Err CounterFull) e = absurd (omega (arith, e))
six-is (Err BadCount) e = absurd (omega (arith, e))
six-is (Err ArcOutside) e = absurd (omega (arith, e))
six-is (Err BadLimit) e = absurd (omega (arith, e))
six-is (Err TooDirty) e = absurd (omega (arith, e))
six-is (Err NoRoom) e = absurd (omega (arith, e))
six-is (Err NoImage) e = absurd (omega (arith, e))
six-is (Err BadImage) e = absurd (omega (arith, e))
six-is (Err TooLarge) e = absurd (omega (arith, e))

-- the addresses of the held rows
pub addresses-held : (n : ℕ) (t : List ℕ) → map (λ r. r.address) (map as_held (held_rows n t)) ≡ map row_address (rows n t)
unfolding held_rows
addresses-held n t = each (rows n t)
  where
    each : (rs : List (List ℕ)) → map (λ r. r.address) (map as_held (map read_address rs)) ≡ map row_address rs
    each [] = refl
    each (r ∷ rs) = ap (λ l. row_address r ∷ l) (each rs)

module _ (a : ArcRecord) (addresses blocks lists : List ℕ) where
  abbrev Z : Sizes
  Z = sizes_of a

  abbrev six : Bool
  six = addresses_unsound Z.P (m_of Z) a.held addresses

  abbrev six' : Bool
  six' = lists_unsound Z (map as_held (held_rows a.held addresses)) (rec_of a.sizes) lists

  abbrev seven : Bool
  seven = blocks_unsound Z.C blocks

  abbrev eight : Bool
  eight = dirty_uncached a.held Z.C addresses blocks

  -- what the tables' own check gives
  abbrev own : ℕ
  own = tables_refused Z.P (m_of Z) a.held Z.C addresses blocks

  pub own_is : (m : ℕ) → m ≡ m_of Z → Fits a addresses blocks lists
      → cond (not (addresses_fit Z.P m addresses) || addresses_unsound Z.P m a.held addresses) 6
      (cond (not (blocks_fit Z.C blocks) || blocks_unsound Z.C blocks) 7 (cond (dirty_uncached a.held Z.C addresses blocks) 8 0)) ≡ own
  unfolding addresses_fit blocks_fit
  own_is m e f =
      rw e (refused-is Z.P (m_of Z) a.held Z.C addresses blocks
      (rw (le-leb Z.P 65536 f.disk-most, le-leb (m_of Z) 1024 f.rows-most, eq-eqb (length addresses) (table_bytes (m_of Z)) f.addresses-are) refl)
      (rw (le-leb Z.C 256 f.cached-most, eq-eqb (length blocks) (table_bytes Z.C) f.blocks-are) refl))

  pub own-6 : own ≡ 6 → 6 ≡ sound_refusal a addresses blocks lists
  unfolding tables_refused sound_refusal
  own-6 =
      by-test six
      (λ e. rw e (λ z. refl))
      (λ e. by-test seven
      (λ f. rw (e, f) (λ z. absurd (omega arith)))
      (λ f. by-test eight (λ g. rw (e, f, g) (λ z. absurd (omega arith))) (λ g. rw (e, f, g) (λ z. absurd (omega arith)))))

  pub own-passes : (own ≡ 6 → ⊥) → six ≡ false
  unfolding tables_refused
  own-passes n = by-test six (λ e. absurd (n (rw e refl))) (λ e. e)

  pub lists-6 : six' ≡ true → 6 ≡ sound_refusal a addresses blocks lists
  unfolding sound_refusal
  lists-6 e = rw (or_right six six' e) refl

  pub own-rest : six ≡ false → six' ≡ false → own ≡ sound_refusal a addresses blocks lists
  unfolding tables_refused sound_refusal
  own-rest e f = rw (e, f) refl

  -- tables and lists that pass
  pub record Sound : Type 0 where
    pub six-passed : six ≡ false
    pub lists-passed : six' ≡ false
    pub seven-passed : seven ≡ false
    pub eight-passed : eight ≡ false

  pub sound : sound_refusal a addresses blocks lists ≡ 0 → Sound
  unfolding sound_refusal
  sound =
      by-test (six || six')
      (λ e. rw e (λ z. absurd (omega arith)))
      (λ e. by-test seven
      (λ f. rw (e, f) (λ z. absurd (omega arith)))
      (λ f. by-test eight
      (λ g. rw (e, f, g) (λ z. absurd (omega arith)))
      (λ g. rw (e, f, g) (λ z. record {
        six-passed = or-false-left six six' e;
        lists-passed = or-false-right six six' e;
        seven-passed = f;
        eight-passed = g;
      }))))

  -- what 6 leaves of the address table
  module _ (f : Fits a addresses blocks lists) (p : six ≡ false) where
    good : Addrs Z.P (m_of Z) a.held addresses
    good = addresses-good Z.P (m_of Z) a.held addresses p

    pub held-rows : HasRows addresses a.held
    held-rows = let h = good.few in omega (arith, h, f.addresses-are)

    pub held_below : (k : ℕ) → k < a.held → row_address (row_at addresses k) < 65536
    held_below k h = addrs-below 65536 Z.P a.held addresses good.each f.disk-most k h

    pub held-apart : distinct (map row_address (rows a.held addresses)) ≡ true
    held-apart = good.apart

    -- .. and of the lists
    module _ (q : six' ≡ false) where
      abbrev names : List ℕ
      names = words (total_of (rec_of a.sizes)) lists

      abbrev well : Bool
      well = misnamed (map (λ r. r.address) (map as_held (held_rows a.held addresses))) names

      abbrev large : Bool
      large = oversized Z (rec_of a.sizes)

      abbrev after : Bool
      after = any nonzero (drop (total_of (rec_of a.sizes) * 4) lists)

      two : (well ≡ false) × (large ≡ false)
      unfolding lists_unsound
      two =
          let e = or-false-left (well || large) after (or-false-left (well || large || after) (ltb Z.C a.sizes.p) q) in
          (or-false-left well large e, or-false-right well large e)

      pub tops-room : (a.sizes.t1 + a.sizes.t2) * 4 ≤ length lists
      unfolding oversized
      tops-room =
          let x = ltb (Z.C + Z.X) (a.sizes.t1 + a.sizes.t2 + a.sizes.b3) in
          let y = ltb Z.C (a.sizes.b1 + a.sizes.b2) in
          let h = ltb-false (Z.C + Z.X) (a.sizes.t1 + a.sizes.t2 + a.sizes.b3) (or-false-left x y two.1) in
          omega (arith, h, f.lists-are)

      pub tops-fine : fine (tops_in (rec_of a.sizes) lists) ≡ true
      tops-fine =
          let held = map row_address (rows a.held addresses) in
          let x = eqb (length names) (length held) in
          let y = all (λ z. is_in z names) held in
          let e = ap (λ l. misnamed l names) (sym (addresses-held a.held addresses)) ∙ two.0 in
          let t = names-tell held names (distinct-once held held-apart) (rows-below a.held addresses held_below) in
          let o = not-false (x && (fine names && y)) (sym t ∙ e) in
          fine-words (a.sizes.t1 + a.sizes.t2) (total_of (rec_of a.sizes)) lists (omega arith)
          (and_left (fine names) y (and_right x (fine names && y) o))

  -- the four in their order
  module _ (disk flash : List ℕ) (k : Counters) where
    abbrev number : ℕ
    number = first (arc_table_tests Z (arc_lent a disk flash addresses blocks lists k) [])

    abbrev tops : Bool
    tops = top_uncached (labelled (base_numbers Z)) (box_in (base_numbers Z) (lent (base_of a) disk flash addresses blocks k)) (tops_in (rec_of a.sizes) lists)

    pub tables-sound : (sound_refusal a addresses blocks lists ≡ 0 → ⊥) → sound_refusal a addresses blocks lists ≡ number
    unfolding sound_refusal box_in
    tables-sound n =
        by-test (six || six')
        (λ e. rw e refl)
        (λ e. by-test seven (λ f. rw (e, f) refl) (λ f. by-test eight (λ g. rw (e, f, g) refl) (λ g. absurd (n (rw (e, f, g) refl)))))

    module _ (s : Sound) where
      pub tables-tops : tops ≡ true → 8 ≡ number
      unfolding box_in
      tables-tops t = rw (s.six-passed, s.lists-passed, s.seven-passed, s.eight-passed, t) refl

      pub tables-limit : tops ≡ false → cond (over_in (base_of a) addresses) 13 0 ≡ number
      unfolding box_in held_rows
      tables-limit t = rw (s.six-passed, s.lists-passed, s.seven-passed, s.eight-passed, t) refl
