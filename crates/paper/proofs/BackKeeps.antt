-- "Write back: .. Disk address a isn't written by this call.": whatever is in the box, the disk's block at a stays. The oldest dirty row of more than t,
-- which U8 cleans, isn't a's: a's is the newest, and t is at least 1. Assumes nothing.
use Rattle.std.specs.Prelude.{◌≡◌, Bool, true, not, ◌&&◌, cond, List, [], ◌∷◌, ◌++◌, ◌⊎◌, ℕ, ◌≤◌, ltb, set, take}
use Rattle.std.proofs.Math.Path.{refl, ap, subst}
use Rattle.std.proofs.Common.{sym, ◌∙◌, inl, inr, arith}
use Rattle.std.proofs.Math.Bool.{false}
use Rattle.std.proofs.Math.Option.{none, some}
use Rattle.std.proofs.Math.Dec.{eqb}
use borrow.Author.Tests.{eqb-true, eqb-false, ltb-true}
use Rattle.paper.specs.KeyedLaws.{All, by-test, either, clash, and_right, or-false-left, or-false-right, all_append, has-without-self}
use Rattle.tables.specs.Records.{bytes2}
use Rattle.paper.specs.Cache.{back_request, Numbers, Hashing, AddressRow, BlockRow, Box, RowOut, BlockRows, Call}
use Rattle.paper.specs.Cache.{Request, Seat, newest, held, cached, block_of, copied, cleaned, is_lost, dirty_rows, reach, excess, flushed}
use Rattle.paper.specs.Cache.{stored, step1, step3, step4, step, answer, write_back, serve}
use Rattle.paper.proofs.Cases.{own_out, eldest_out, none_out, by-step1, by-step4}
use Rattle.paper.proofs.SoundLaws.{chosen-slot, held-cleaned}
use Rattle.paper.proofs.FaithfulLaws.{at, at_set_other}
use Rattle.paper.specs.Engine.{Fixed, fit, labelled}
use Rattle.paper.specs.Lent.{Lent, Ask, calling, refusal, call_of, box_in, call}
use Rattle.paper.proofs.RefusalLaws.{keeps}
use Rattle.paper.proofs.CallLaws.{limit-fits, served-finds, served-box}
use Rattle.paper.proofs.FewWrites.{one-if-le, dirty-one}

module _ {F X : Type 0} (H : Hashing F X) (a : ℕ) where
  -- a row that copies nothing to a: it is another address's, or its fingerprint isn't chosen
  abbrev Spares : (F → Bool) → AddressRow F → Type 0
  Spares c r = (eqb a r.address ≡ false) ⊎ (c r.fingerprint ≡ false)

  copied-spares : (c : F → Bool) (rows : List (AddressRow F)) (used : List (BlockRow F)) (flash disk : List X) → All (Spares c) rows
      → at H (copied H c rows used flash disk) a ≡ at H disk a
  copied-spares c [] used flash disk h = refl
  copied-spares c (r ∷ rs) used flash disk h =
      let b = block_of H r.fingerprint used flash in
      copied-spares c rs used flash (cond (r.dirty && c r.fingerprint) (set disk r.address b) disk) h.1
      ∙ by-test (r.dirty && c r.fingerprint)
      (λ e. rw e (either h.0 (λ n. at_set_other H disk r.address a b n) (λ n. clash (and_right r.dirty (c r.fingerprint) e) n)))
      (λ e. rw e refl)

  -- rows of other addresses
  others-spare : (c : F → Bool) (rows : List (AddressRow F)) → held a rows ≡ false → All (Spares c) rows
  others-spare c [] h = tt
  others-spare c (r ∷ rs) h =
      (inl (or-false-left (eqb a r.address) (held a rs) h), others-spare c rs (or-false-right (eqb a r.address) (held a rs) h))

  -- the row of a, newest, and the others
  all-spare : (c : F → Bool) (rows : List (AddressRow F)) (g : F) (w : Bool) (z : Seat) → held a rows ≡ false → c g ≡ false
      → All (Spares c) (rows ++ (newest a g w z ∷ []))
  all-spare c rows g w z h n = all_append (Spares c) rows (newest a g w z ∷ []) (others-spare c rows h) (inr n, tt)

  -- step 4 takes a row of another fingerprint than g
  step4-spares : (rows : List (AddressRow F)) (t : BlockRows F) (flash disk : List X) (g : F) (b : X) (w : Bool) (z : Seat) (k : ℕ) → held a rows ≡ false
      → at H (step4 H (rows ++ (newest a g w z ∷ [])) t flash disk g b k).box.disk a ≡ at H disk a
  unfolding stored
  step4-spares rows t flash disk g b w z k h =
      let all = rows ++ (newest a g w z ∷ []) in
      by-step4 H all t.free t.used flash disk g b k (λ x. at H x.box.disk a ≡ at H disk a)
      (λ y. refl)
      (λ y i is e. copied-spares (is_lost H none) all t.used flash disk (all-spare (is_lost H none) rows g w z h refl))
      (λ y e u ch. copied-spares (is_lost H (some u.fingerprint)) all t.used flash disk
      (all-spare (is_lost H (some u.fingerprint)) rows g w z h
      (by-test (H.same u.fingerprint g)
      (λ s. clash (subst (λ f. cached H f t.used ≡ true) (H.same→≡ u.fingerprint g s) (chosen-slot H all t.used u ch).1) y)
      (λ s. s))))
      (λ e f. copied-spares (is_lost H none) all t.used flash disk (all-spare (is_lost H none) rows g w z h refl))

  out-not-held : (m : ℕ) (s : Box F X) (x : ℕ) → held x (step1 H m s x).rows ≡ false
  out-not-held m s x =
      by-step1 H m s x (λ o. held x o.rows ≡ false)
      (λ h. has-without-self eqb (λ r. r.address) x s.rows)
      (λ h r rs e f. or-false-right (eqb x r.address) (held x rs) (subst (λ l. held x l ≡ false) e h))
      (λ h e. h)

  -- so the whole step writes no disk block at its own address
  pub step-keeps-a : (m : ℕ) (s : Box F X) (g : F) (b : X) (w : Bool) (z : Seat)
      → at H (step H m s (record { address = a; fingerprint = g; block = b; dirty = w; seat = z })).box.disk a ≡ at H s.disk a
  unfolding step
  step-keeps-a m s g b w z =
      let after : (o : RowOut F X) → held a o.rows ≡ false → at H o.disk a ≡ at H s.disk a
      → at H (step4 H (o.rows ++ (newest a g w z ∷ []))
      (step3 H o.gone o.rows (o.rows ++ (newest a g w z ∷ [])) (record { free = s.free; used = s.used }))
      s.flash o.disk g b o.primary).box.disk a ≡ at H s.disk a
      = λ o h e. step4-spares o.rows (step3 H o.gone o.rows (o.rows ++ (newest a g w z ∷ [])) (record { free = s.free; used = s.used }))
      s.flash o.disk g b w z o.primary h ∙ e in
      by-step1 H m s a
      (λ o. at H (step4 H (o.rows ++ (newest a g w z ∷ []))
      (step3 H o.gone o.rows (o.rows ++ (newest a g w z ∷ [])) (record { free = s.free; used = s.used }))
      s.flash o.disk g b o.primary).box.disk a ≡ at H s.disk a)
      (λ h. after (own_out H s a) (has-without-self eqb (λ r. r.address) a s.rows) refl)
      (λ h r rs e f. let n : held a (r ∷ rs) ≡ false = subst (λ l. held a l ≡ false) e h in
      after (eldest_out H s r rs) (or-false-right (eqb a r.address) (held a rs) n)
      (copied-spares (λ f. true) (r ∷ []) s.used s.flash s.disk (inl (or-false-left (eqb a r.address) (held a rs) n), tt)))
      (λ h e. after (none_out H s) h refl)

  -- after a step the row of a is the newest, and no other row is a's
  abbrev Last : List (AddressRow F) → Type 0
  Last rows = (ys : List (AddressRow F)) × (r : AddressRow F) × (rows ≡ ys ++ (r ∷ [])) × (held a ys ≡ false)

  last-cleaned : (c : F → Bool) (ys : List (AddressRow F)) (r : AddressRow F) → held a ys ≡ false → Last (cleaned H c (ys ++ (r ∷ [])))
  last-cleaned c ys r h = (cleaned H c ys, _, cleaned-append ys, held-cleaned H c a ys ∙ h)
    where
      cleaned-append : (ys : List (AddressRow F)) → cleaned H c (ys ++ (r ∷ [])) ≡ cleaned H c ys ++ cleaned H c (r ∷ [])
      cleaned-append [] = refl
      cleaned-append (y ∷ ys) =
          ap {B = List (AddressRow F)} (λ l. newest y.address y.fingerprint (y.dirty && not (c y.fingerprint)) y.seat ∷ l) (cleaned-append ys)

  step-last : (m : ℕ) (s : Box F X) (q : Request F X) → q.address ≡ a → Last (step H m s q).box.rows
  unfolding step stored
  step-last m s q e =
      let o = step1 H m s q.address in
      let new = newest q.address q.fingerprint q.dirty q.seat in
      let rows = o.rows ++ (new ∷ []) in
      let t = step3 H o.gone o.rows rows (record { free = s.free; used = s.used }) in
      let h : held a o.rows ≡ false = subst (λ x. held x o.rows ≡ false) e (out-not-held m s q.address) in
      by-step4 H rows t.free t.used s.flash o.disk q.fingerprint q.block o.primary (λ x. Last x.box.rows)
      (λ c. (o.rows, new, refl, h))
      (λ c k ks p. last-cleaned (is_lost H none) o.rows new h)
      (λ c p u ch. last-cleaned (is_lost H (some u.fingerprint)) o.rows new h)
      (λ p q. last-cleaned (is_lost H none) o.rows new h)

  reach-0 : (rows : List (AddressRow F)) → reach H 0 rows ≡ 0
  reach-0 [] = refl
  reach-0 (r ∷ rs) = refl

  -- where two rows are dirty, the oldest dirty one isn't the last
  oldest-spares : (ys : List (AddressRow F)) (r : AddressRow F) → held a ys ≡ false → 2 ≤ dirty_rows H (ys ++ (r ∷ []))
      → All (Spares (λ f. true)) (take (reach H 1 (ys ++ (r ∷ []))) (ys ++ (r ∷ [])))
  oldest-spares [] r h = λ l. absurd (let o = one-if-le r.dirty in let d = dirty-one H r in omega (arith, l, o, d))
  oldest-spares (y ∷ ys) r h =
      let own = or-false-left (eqb a y.address) (held a ys) h in
      by-test y.dirty
      (λ e. rw (e, reach-0 (ys ++ (r ∷ []))) (λ l. (inl own, tt)))
      (λ e. rw e (λ l. (inl own, oldest-spares ys r (or-false-right (eqb a y.address) (held a ys) h) (omega (arith, l)))))

  limited-spares : (t : ℕ) (s : Box F X) → 1 ≤ t → Last s.rows → at H (flushed H (excess H t s.rows) s).box.disk a ≡ at H s.disk a
  unfolding flushed
  limited-spares t s t1 l =
      by-test (ltb t (dirty_rows H s.rows))
      (λ y. rw y (copied-spares (λ f. true) (take (reach H 1 s.rows) s.rows) s.used s.flash s.disk
      (subst (λ rows. All (Spares (λ f. true)) (take (reach H 1 rows) rows)) (sym l.2)
      (oldest-spares l.0 l.1 l.3 (let g = ltb-true t (dirty_rows H s.rows) y in let e = ap (dirty_rows H) l.2 in omega (arith, t1, g, e))))))
      (λ y. rw (y, reach-0 s.rows) refl)

  pub back-keeps-a : (N : Numbers) (s : Box F X) (b : X) (z : Seat) → 1 ≤ N.t → at H (serve H N s (Call.back a b z)).box.disk a ≡ at H s.disk a
  unfolding serve write_back answer
  back-keeps-a N s b z t1 =
      let q = back_request H s a b z in
      limited-spares N.t (step H N.m s q).box t1 (step-last N.m s q refl) ∙ step-keeps-a N.m s (H.hash b) b q.dirty z

-- the same of lent memory, served or refused
pub back-keeps-lent : (N : Numbers) (t : Lent) (a : ℕ) (l : List ℕ) (z : ℕ)
    → at (labelled N) (box_in N (call N t (Ask.back a l z)).lent).disk a ≡ at (labelled N) (box_in N t).disk a
unfolding call_of
back-keeps-lent N t a l z =
    let q = Ask.back a l z in
    by-test (eqb (refusal N t (calling q)) 0)
    (λ y. let e = eqb-true (refusal N t (calling q)) 0 y in
    ap (λ (s : Box (Fixed 32) (Fixed N.B)). at (labelled N) s.disk a) (served-box N t q e)
    ∙ back-keeps-a (labelled N) a N (box_in N t) (fit N.B l) (bytes2 z) (limit-fits N (served-finds N t q e).limit).0)
    (λ y. ap (λ x. at (labelled N) (box_in N x).disk a) (keeps N t q (eqb-false (refusal N t (calling q)) 0 y)).lent)
