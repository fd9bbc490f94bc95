-- A look, from where its block is found. Assumes nothing.
use Rattle.std.specs.Prelude.{◌≡◌, cond, List, ℕ, ◌≤◌, ◌<◌, ◌+◌, ◌*◌, eqb, ltb, length, get_or, Result, Ok, Err}
use Rattle.std.proofs.Math.Path.{refl}
use Rattle.std.proofs.Common.{sym, ap, ◌∙◌}
use borrow.Author.Tests.{eqb-true, eqb-false, ne_eqb}
use Rattle.tables.specs.Rows.{row_at}
use Rattle.tables.specs.Records.{read_block}
use Rattle.paper.specs.KeyedLaws.{by-test, by-option}
use Rattle.paper.specs.Cache.{Numbers, Box, Counters, row_with_block, slot_of, serve, look_as}
use Rattle.paper.specs.Engine.{Fixed, labelled, comparing}
use Rattle.paper.specs.Lent.{Lent, Ask, calling, refusal, box_in, call_of, call, served}
use Rattle.paper.specs.Index.{index_where}
use Rattle.paper.specs.RowBytes.{Bytes}
use Rattle.paper.proofs.RefusalLaws.{served-is, keeps}
use Rattle.paper.proofs.CallLaws.{served-finds}
use Rattle.parts.specs.declared.BoxRecord.{BoxRecord}
use Rattle.look.specs.declared.Place.{Place}
use Rattle.look.specs.declared.Place.TheVariants.{Flash, Disk}
use Rattle.refusal.specs.declared.Refusal.{Refusal}
use Rattle.refusal.specs.Numbers.{code, refused}
use Rattle.parts.specs.Rep.{numbers_of, Rep, no_row, engine}
use Rattle.refusals.specs.Given.{lent}
use Rattle.look.specs.Look.{row_place, where_is, answer_at, part_at}
use Rattle.parts.specs.CopyLaws.{part-block, parts-length, block-ends, slot-some, slot_of-below}
use Rattle.serve.specs.ServeLaws.{hit-row, found-hit, found-miss}
use Rattle.policy.specs.CallLaws.{rep, address-fits}

-- a look that is not refused
module _ (b : BoxRecord) (disk flash addrs blocks : List ℕ) (k : Counters) (a : ℕ)
    (e : refusal (numbers_of b) (lent b disk flash addrs blocks k) (calling (Ask.look a)) ≡ 0) (ba : Bytes addrs) (bb : Bytes blocks) where
  abbrev box : Box (Fixed 32) (Fixed b.size)
  box = box_in (numbers_of b) (lent b disk flash addrs blocks k)

  is : Rep b disk flash addrs blocks box
  is = rep b disk flash addrs blocks k (Ask.look a) e ba bb

  -- what the two searches find
  module _ (i j : ℕ) (ei : i ≡ index_where (λ x. eqb a x.address) box.rows)
      (ej : j ≡ cond (ltb i b.held) (length box.free + index_where (λ u. comparing.same (get_or box.rows i no_row).fingerprint u.fingerprint)
      box.used) b.slots) where
    pub found-flash : j < b.slots → (r : ℕ) → r ≡ (read_block (row_at blocks j)).slot
        → Ok (Flash (record { 0 = r })) ≡ where_is (numbers_of b) (lent b disk flash addrs blocks k) a
    unfolding where_is row_place
    found-flash l r er =
        let q = found-hit b disk flash addrs blocks box is a i j ei ej l in
        let f = (get_or box.rows i no_row).fingerprint in
        let s : r ≡ slot_of (engine b) f box.used
        = slot-some (numbers_of b) b.slots blocks box.free box.used f is.blocks-are j q.place q.is-cached r er in
        rw (e, hit-row b disk flash addrs blocks box is a i j q) (ap (λ (x : ℕ). Ok (Flash (record { 0 = x }))) s)

    pub found-disk : b.slots ≤ j → Ok Disk ≡ where_is (numbers_of b) (lent b disk flash addrs blocks k) a
    unfolding where_is row_place
    found-disk l = rw (e, found-miss b disk flash addrs blocks box is a i j ei ej l) refl

-- a look that is refused
pub where-refused : (N : Numbers) (t : Lent) (a number : ℕ) → number ≡ refusal N t (calling (Ask.look a)) → (number ≡ 0 → ⊥) → Err number ≡ where_is N t a
unfolding where_is
where-refused N t a number e n = rw (ne_eqb (refusal N t (calling (Ask.look a))) 0 (λ z. n (e ∙ z))) (ap (λ (x : ℕ). Err x) e)

-- the same by the code's refusal
pub where-told : (N : Numbers) (t : Lent) (a : ℕ) (r : Refusal) → code r ≡ refusal N t (calling (Ask.look a)) → Err (code r) ≡ where_is N t a
where-told N t a r e = where-refused N t a (code r) e (refused r)

-- what a look answers, by the place
pub look-answers : (N : Numbers) (t : Lent) (a : ℕ) → answer_at (where_is N t a) ≡ (call N t (Ask.look a)).answer
unfolding where_is row_place answer_at served call_of serve look_as
look-answers N t a =
    let q = Ask.look a in
    by-test (eqb (refusal N t (calling q)) 0)
    (λ y. rw (y, served-is N t q (eqb-true (refusal N t (calling q)) 0 y))
    (by-option (row_with_block (labelled N) (box_in N t) a) (λ n. rw n refl) (λ r m. rw m refl)))
    (λ y. rw y (sym (keeps N t q (eqb-false (refusal N t (calling q)) 0 y)).answer))

-- the bytes of a place are there
abbrev pub PartIn : (b : BoxRecord) (flash disk : List ℕ) (a : ℕ) → Result Place ℕ → Type 0
PartIn b flash disk a (Err k) = Unit {0}
PartIn b flash disk a (Ok (Flash s)) = s.0 * b.size + b.size ≤ length flash
PartIn b flash disk a (Ok Disk) = a * b.size + b.size ≤ length disk

module _ (b : BoxRecord) (disk flash addrs blocks : List ℕ) (k : Counters) (a : ℕ) (ba : Bytes addrs) (bb : Bytes blocks) where
  -- the slot of a row's block, and the address
  slot-below : (e : refusal (numbers_of b) (lent b disk flash addrs blocks k) (calling (Ask.look a)) ≡ 0) (f : Fixed 32)
      → slot_of (engine b) f (box_in (numbers_of b) (lent b disk flash addrs blocks k)).used < b.slots
  slot-below e f = slot_of-below (numbers_of b) b.slots f (box b disk flash addrs blocks k a e ba bb).used
      (served-finds (numbers_of b) (lent b disk flash addrs blocks k) (Ask.look a) e).fits.d-least
      (is b disk flash addrs blocks k a e ba bb).blocks-are.used-below

  address_below : refusal (numbers_of b) (lent b disk flash addrs blocks k) (calling (Ask.look a)) ≡ 0 → a < b.blocks
  address_below e = address-fits b disk flash addrs blocks k (Ask.look a) e a refl

  pub where-in : PartIn b flash disk a (where_is (numbers_of b) (lent b disk flash addrs blocks k) a)
  unfolding where_is row_place
  where-in =
      let N = numbers_of b in
      let t = lent b disk flash addrs blocks k in
      let n = refusal N t (calling (Ask.look a)) in
      by-test (eqb n 0)
      (λ y.
      let e = eqb-true n 0 y in
      let h = is b disk flash addrs blocks k a e ba bb in
      rw y (by-option (row_with_block (engine b) (box_in N t) a)
      (λ w. rw (w, parts-length b.size b.blocks disk (box_in N t).disk h.disk-is) (block-ends a b.blocks b.size (address_below e)))
      (λ r w. rw (w, parts-length b.size b.slots flash (box_in N t).flash h.flash-is)
      (block-ends (slot_of (engine b) r.fingerprint (box_in N t).used) b.slots b.size (slot-below e r.fingerprint)))))
      (λ y. rw y tt)

  -- what a look returns, by the place
  pub look-returns : part_at b.size a flash disk (where_is (numbers_of b) (lent b disk flash addrs blocks k) a)
      ≡ (call (numbers_of b) (lent b disk flash addrs blocks k) (Ask.look a)).part
  unfolding where_is row_place part_at served call_of serve look_as
  look-returns =
      let N = numbers_of b in
      let t = lent b disk flash addrs blocks k in
      let n = refusal N t (calling (Ask.look a)) in
      by-test (eqb n 0)
      (λ y.
      let e = eqb-true n 0 y in
      let h = is b disk flash addrs blocks k a e ba bb in
      rw (y, served-is N t (Ask.look a) e)
      (by-option (row_with_block (engine b) (box_in N t) a)
      (λ w. rw w (part-block b.size b.blocks disk (box_in N t).disk h.disk-is a (engine b).blank (address_below e)))
      (λ r w. rw w (part-block b.size b.slots flash (box_in N t).flash h.flash-is (slot_of (engine b) r.fingerprint (box_in N t).used)
      (engine b).blank (slot-below e r.fingerprint)))))
      (λ y. rw y (sym (keeps N t (Ask.look a) (eqb-false n 0 y)).part))
