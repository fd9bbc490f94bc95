-- Lists with no write: looks and flushes among the reads change nothing, so that what is compared after each read is printed D-LRU's there too.
use Rattle.std.specs.Prelude.{◌≡◌, Bool, true, false, cond, ℕ, ◌≤◌, ◌<◌, length, take}
use Rattle.std.proofs.Math.Path.{refl}
use Rattle.std.proofs.Common.{sym, ap, ◌∙◌, subst, inl}
use mathlib.Core.List.{List, [], ◌∷◌}
use Rattle.std.proofs.Math.Option.{Option, none, some, map, some-ne-none}
use Rattle.paper.specs.Cache.{Numbers, Hashing, AddressRow, Box, Call, read, through, back, invalidate, look, flush, about, before, Below, Within, serve}
use Rattle.paper.specs.Cache.{fresh}
use Rattle.paper.specs.Cache.{look_as, flushed, reach, row_with_block}
use Rattle.paper.specs.KeyedLaws.{All, by-test}
use Rattle.paper.specs.Machines.{content_of, NoWrite, Read, Compared, if_read, seen_in, printed_trace}
use Rattle.paper.specs.Events.{Event, cache_trace}
use Rattle.paper.specs.Sound.{Sound}
use Rattle.paper.proofs.SoundLaws.{sound-serve, sound-fresh}
use Rattle.paper.specs.PlainDisk.{ServedWithin}
use Rattle.paper.proofs.Printed.{ReadInv, read-printed, printed-law, copied-clean}
use Rattle.paper.proofs.PartlyLaws.{partly-clean, all_take}
use Rattle.paper.specs.Quiet.{reads_of, trace_of}

module _ {F X : Type 0} (H : Hashing F X) where
  -- looks and flushes change nothing where only reads were served
  pub look-same : (N : Numbers) (s : Box F X) (a : ℕ) → (serve H N s (look a)).box ≡ s
  unfolding serve look_as
  look-same N s a = go (row_with_block H s a)
    where
      go : (o : Option (AddressRow F)) → (look_as H s a o).box ≡ s
      go (some r) = refl
      go none = refl

  flush-same : (N : Numbers) (k : ℕ) (disk : List X) (s : Box F X) → ReadInv H (content_of H disk) disk s → (serve H N s (flush k)).box ≡ s
  unfolding serve flushed
  flush-same N k disk s v =
      let n = reach H k s.rows in
      let r = partly-clean H n s.rows v.clean in
      let d = copied-clean H (λ f. true) (take n s.rows) s.used s.flash s.disk (all_take H (λ r. r.dirty ≡ false) n s.rows v.clean) in
      λ i. record { rows = r i; free = s.free; used = s.used; flash = s.flash; disk = d i }

  module _ (disk : List X) (N : Numbers) (m1 : 1 ≤ N.m) (d1 : 1 ≤ N.d) where
    abbrev Same : List (Event X) → Type 0
    Same es = (s : Box F X) → Sound H N s → ReadInv H (content_of H disk) disk s → trace_of H N s es ≡ cache_trace H N s (reads_of es)

    quiet-call : (c : Call X) (r : Bool) (es : List (Event X)) (s : Box F X) → NoWrite c → (r ≡ false → Within N.P c) → Sound H N s
        → ReadInv H (content_of H disk) disk s → Same es
        → let s' = cond r s (serve H N s c).box in
        if_read c (λ a. seen_in s' (cond r none (some (serve H N s c).word))) (trace_of H N s' es)
        ≡ cache_trace H N s (if_read c (λ a. record { address = a; refused = r }) (reads_of es))
    unfolding cache_trace
    quiet-call (read a) r es s n w h v ih =
        by-test r
        (λ e. rw e (ap {B = List (Compared F)} (λ l. seen_in s none ∷ l) (ih s h v)))
        (λ e. rw e (ap {B = List (Compared F)} (λ l. seen_in (serve H N s (read a)).box (some (serve H N s (read a)).word) ∷ l)
        (ih (serve H N s (read a)).box (sound-serve H N s (read a) h m1 d1 (w e)) (read-printed H disk N s a h v m1 d1).2)))
    quiet-call (look a) r es s n w h v ih
        = by-test r (λ e. rw e (ih s h v)) (λ e. rw e (subst (λ x. trace_of H N x es ≡ cache_trace H N s (reads_of es)) (sym (look-same N s a)) (ih s h v)))
    quiet-call (flush k) r es s n w h v ih
        = by-test r (λ e. rw e (ih s h v))
        (λ e. rw e (subst (λ x. trace_of H N x es ≡ cache_trace H N s (reads_of es)) (sym (flush-same N k disk s v)) (ih s h v)))
    quiet-call (through a b z) r es s n w h v ih = absurd (some-ne-none b n)
    quiet-call (back a b z) r es s n w h v ih = absurd (some-ne-none b n)
    quiet-call (invalidate a b z) r es s n w h v ih = absurd (some-ne-none b n)

    quiet : (es : List (Event X)) → All (λ e. NoWrite e.call) es → All (ServedWithin N.P) es → Same es
    unfolding trace_of cache_trace
    quiet [] n w s h v = refl
    quiet (e ∷ es) n w s h v = quiet-call e.call e.refused es s n.0 w.0 h v (quiet es n.1 w.1)

    -- for every list with no write, from a fresh box
    pub printed-quiet : (flash : List X) (es : List (Event X)) → length flash ≡ N.d → length disk ≡ N.P → All (λ e. NoWrite e.call) es
        → All (ServedWithin N.P) es
        → trace_of H N (fresh N.d flash disk) es
        ≡ printed_trace H.same N.m N.d (content_of H disk) (record { addresses = []; fingerprints = [] }) (reads_of es)
    printed-quiet flash es fl dl n w =
        quiet es n w (fresh N.d flash disk) (sound-fresh H N flash disk fl dl)
        (record { clean = tt; contents = tt; same_disk = refl; nested = inl ([], refl) })
        ∙ printed-law H N flash disk (reads_of es) m1 d1 fl dl (reads-within es w)
      where
        one : (reads : Bool) (a : Option ℕ) (r : Bool) (l : List Read) → (r ≡ false → Below N.P a) → All (λ e. e.refused ≡ false → e.address < N.P) l
            → All (λ e. e.refused ≡ false → e.address < N.P) (cond reads (before (map (λ a. record { address = a; refused = r }) a) l) l)
        one false a r l w h = h
        one true none r l w h = h
        one true (some a) r l w h = (w, h)

        reads-within : (es : List (Event X)) → All (ServedWithin N.P) es → All (λ e. e.refused ≡ false → e.address < N.P) (reads_of es)
        reads-within [] w = tt
        reads-within (e ∷ es) w = one (about e.call).reads (about e.call).address e.refused (reads_of es) w.0 (reads-within es w.1)
