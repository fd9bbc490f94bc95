-- "For a D-LRU box and every list of reads from fresh, none refused": hits are as told from the list alone.
use Rattle.std.specs.Prelude.{◌≡◌, Bool, true, false, cond, ℕ, ◌≤◌, ltb}
use Rattle.std.proofs.Math.Path.{refl, ap, ap₂}
use Rattle.std.proofs.Common.{sym, ◌∙◌, inr, arith}
use Rattle.std.proofs.Math.Bool.{not, ◌&&◌}
use mathlib.Core.List.{List, [], ◌∷◌, ◌++◌, map, map-append, append-nil, append_assoc}
use Rattle.std.proofs.Math.Option.{Option, some}
use Rattle.std.proofs.Math.Dec.{eqb}
use Rattle.paper.specs.KeyedLaws.{All, by-test, or_left, or_right, eqb→≡, eqb-self}
use Rattle.paper.specs.Cache.{Numbers, Word, hit, miss}
use Rattle.paper.specs.Engine.{Fixed, labelled}
use Rattle.paper.specs.Lent.{Lent, opening, refusal, call, opened, fresh, split}
use Rattle.paper.specs.BatchLent.{Asking, one}
use Rattle.paper.specs.Machines.{Printed, printed_next, printed_hit, Read, printed_trace, content_of}
use Rattle.paper.specs.Demand3.{next, refusals, said_word, first_plain}
use Rattle.paper.proofs.OrderLaws.{order, order-snoc}
use Rattle.paper.proofs.RefusalLaws.{exactly-opening, opened-is}
use Rattle.paper.proofs.CallLaws.{fits}
use Rattle.paper.specs.Claims.{as_read, shown_by, fed_by}
use Rattle.paper.proofs.ClaimsLaws.{reads-alone}
use Rattle.counting.specs.Told.{occurs, since, distinct, tell_hit, tell}
use Rattle.counting.proofs.Recency.{Newest, distinct-order, newest-put, present}
use Rattle.counting.specs.TellHit.{NoneRefused, after, content_in, words}

-- The printed D-LRU: after the reads `past` its two lists are the newest of their addresses and of their contents
module _ {F : Type 0} (same : F → F → Bool) (same→≡ : (f g : F) → same f g ≡ true → f ≡ g) (same_refl : (f : F) → same f f ≡ true)
    (m d : ℕ) (content : ℕ → F) where
  pub record Follows (past : List ℕ) (p : Printed F) : Type 0 where
    pub addresses : Newest eqb m (order eqb past) p.addresses
    pub fingerprints : Newest same d (order same (map content past)) p.fingerprints

  content-occurs : (a : ℕ) (past : List ℕ) → occurs eqb a past ≡ true → occurs same (content a) (map content past) ≡ true
  content-occurs a [] = λ h. h
  content-occurs a (x ∷ xs) =
      by-test (eqb a x)
      (λ e h. or_left (same (content a) (content x)) (occurs same (content a) (map content xs)) (rw (eqb→≡ a x e) (same_refl (content x))))
      (λ e. rw e (λ h. or_right (same (content a) (content x)) (occurs same (content a) (map content xs)) (content-occurs a xs h)))

  and-three : (x y z w : Bool) → (x ≡ true → z ≡ true) → ((x && y) && (z && w)) ≡ ((x && y) && w)
  and-three true y z w h = rw (h refl) refl
  and-three false y z w h = refl

  -- a hit of the printed D-LRU is told by counting
  pub printed-told : (past : List ℕ) (p : Printed F) (a : ℕ) → Follows past p → printed_hit same content p a ≡ tell_hit same m d content past a
  unfolding printed_hit tell_hit
  printed-told past p a v =
      ap₂ ◌&&◌ (present eqb eqb→≡ eqb-self m a past p.addresses v.addresses)
      (present same same→≡ same_refl d (content a) (map content past) p.fingerprints v.fingerprints)
      ∙ and-three (occurs eqb a past) (ltb (distinct eqb (since eqb a past)) m) (occurs same (content a) (map content past))
      (ltb (distinct same (since same (content a) (map content past))) d) (content-occurs a past)

  pub follows_next : (past : List ℕ) (p : Printed F) (a : ℕ) → 1 ≤ m → 1 ≤ d → Follows past p → Follows (past ++ (a ∷ [])) (printed_next same m d content p a)
  unfolding printed_next
  follows_next past p a m1 d1 v =
      record {
        addresses = rw (order-snoc eqb eqb→≡ eqb-self a past)
            (newest-put eqb eqb→≡ eqb-self m a (order eqb past) p.addresses m1 (distinct-order eqb eqb→≡ eqb-self past) v.addresses);
        fingerprints = rw (map-append content past (a ∷ []), order-snoc same same→≡ same_refl (content a) (map content past))
            (newest-put same same→≡ same_refl d (content a) (order same (map content past)) p.fingerprints d1
            (distinct-order same same→≡ same_refl (map content past)) v.fingerprints);
      }

  pub follows-none : Follows [] (record { addresses = []; fingerprints = [] })
  follows-none =
      record {
        addresses = record { older = []; whole = refl; most = omega arith; full = inr refl };
        fingerprints = record { older = []; whole = refl; most = omega arith; full = inr refl };
      }

  -- the whole list of reads, none refused
  pub trace-told : (past rest : List ℕ) (p : Printed F) → 1 ≤ m → 1 ≤ d → Follows past p
      → map (λ c. c.answer) (printed_trace same m d content p (map (λ a. record { address = a; refused = false }) rest))
      ≡ map some (tell same m d content past rest)
  unfolding printed_trace tell
  trace-told past [] p m1 d1 v = refl
  trace-told past (a ∷ rest) p m1 d1 v =
      ap₂ {C = List (Option Word)} (λ b l. some (cond b hit miss) ∷ l) (printed-told past p a v)
      (trace-told (past ++ (a ∷ [])) rest (printed_next same m d content p a) m1 d1 (follows_next past p a m1 d1 v))

module _ (N : Numbers) where
  words-shown : (t : Lent) (rs : List (ℕ × List ℕ)) → words N t rs ≡ map (λ c. c.answer) (shown_by N t rs)
  unfolding words shown_by
  words-shown t [] = refl
  words-shown t (r ∷ rs) = ap {B = List (Option Word)} (λ l. said_word (call N t (as_read r)).answer ∷ l) (words-shown (next N t (one (as_read r))) rs)

  fed-served : (t : Lent) (rs : List (ℕ × List ℕ)) → NoneRefused N t rs
      → fed_by N t rs ≡ map (λ a. record { address = a; refused = false }) (map (λ r. r.0) rs)
  unfolding refusals fed_by
  fed-served t [] w = refl
  fed-served t (r ∷ rs) w =
      ap₂ {C = List Read} (λ k l. record { address = r.0; refused = not (eqb k 0) } ∷ l) w.0 (fed-served (next N t (one (as_read r))) rs w.1)

-- U9: "For a D-LRU box and every list of reads from fresh, none refused": the engine answers hit exactly where the list alone tells so, and miss elsewhere.
-- The box is over any disk and flash bytes; a read has its address and the block lent to it.
pub tell-hit : (N : Numbers) (t : Lent) (rs : List (ℕ × List ℕ)) → refusal N t opening ≡ 0 → NoneRefused N (opened N t) rs
    → words N (opened N t) rs ≡ map some (tell (labelled N).same N.m N.d (content_in N t) [] (map (λ r. r.0) rs))
unfolding fresh
tell-hit N t rs opens none =
    let H = labelled N in
    let f = fits N ((exactly-opening N t).gives-0.0 opens).0 in
    let content = content_in N (opened N t) in
    let start : Printed (Fixed 32) = record { addresses = []; fingerprints = [] } in
    let disk : (opened N t).disk ≡ t.disk = ap (λ x. x.disk) (opened-is N t opens) in
    words-shown N (opened N t) rs
    ∙ ap (map (λ c. c.answer)) (reads-alone N t rs opens)
    ∙ ap (λ es. map (λ c. c.answer) (printed_trace H.same N.m N.d content start es)) (fed-served N (opened N t) rs none)
    ∙ trace-told H.same H.same→≡ H.same_refl N.m N.d content [] (map (λ r. r.0) rs) start f.m-least f.d-least
    (follows-none H.same H.same→≡ H.same_refl N.m N.d content)
    ∙ ap (λ l. map some (tell H.same N.m N.d (content_of H (split N.B N.P l)) [] (map (λ r. r.0) rs))) disk

last-≡ : {A : Type 0} (xs ys : List A) (x y : A) → xs ++ (x ∷ []) ≡ ys ++ (y ∷ []) → x ≡ y
last-≡ xs ys x y e = sym (last-is x xs x) ∙ ap (last x) e ∙ last-is x ys y
  where
    last : {A : Type 0} → A → List A → A
    last d [] = d
    last d (x ∷ xs) = last x xs

    last-is : {A : Type 0} (d : A) (xs : List A) (x : A) → last d (xs ++ (x ∷ [])) ≡ x
    last-is d [] x = refl
    last-is d (z ∷ xs) x = last-is z xs x

words_last : (N : Numbers) (t : Lent) (rs : List (ℕ × List ℕ)) (r : ℕ × List ℕ)
    → words N t (rs ++ (r ∷ [])) ≡ words N t rs ++ (said_word (call N (after N t rs) (as_read r)).answer ∷ [])
unfolding words after
words_last N t [] r = refl
words_last N t (q ∷ rs) r =
    ap {B = List (Option Word)} (λ l. said_word (call N t (as_read q)).answer ∷ l) (words_last N (next N t (one (as_read q))) rs r)

tell-last : {F : Type 0} (same : F → F → Bool) (m d : ℕ) (content : ℕ → F) (past rest : List ℕ) (a : ℕ)
    → tell same m d content past (rest ++ (a ∷ [])) ≡ tell same m d content past rest ++ (cond (tell_hit same m d content (past ++ rest) a) hit miss ∷ [])
unfolding tell
tell-last same m d content past [] a = ap {B = List Word} (λ l. cond (tell_hit same m d content l a) hit miss ∷ []) (sym (append-nil past))
tell-last same m d content past (b ∷ rest) a =
    ap {B = List Word} (λ l. cond (tell_hit same m d content past b) hit miss ∷ l)
    (tell-last same m d content (past ++ (b ∷ [])) rest a
    ∙ ap (λ l. tell same m d content (past ++ (b ∷ [])) rest ++ (cond (tell_hit same m d content l a) hit miss ∷ [])) (append_assoc past (b ∷ []) rest))

-- "a read hits exactly when": the answer to a read after the reads `past`
pub tell-read : (N : Numbers) (t : Lent) (past : List (ℕ × List ℕ)) (r : ℕ × List ℕ) → refusal N t opening ≡ 0 → NoneRefused N (opened N t) (past ++ (r ∷ []))
    → said_word (call N (after N (opened N t) past) (as_read r)).answer
    ≡ some (cond (tell_hit (labelled N).same N.m N.d (content_in N t) (map (λ r. r.0) past) r.0) hit miss)
tell-read N t past r opens none =
    let H = labelled N in
    let content = content_in N t in
    let told = tell H.same N.m N.d content [] (map (λ r. r.0) past) in
    last-≡ (words N (opened N t) past) (map some told) _ _
    (sym (words_last N (opened N t) past r) ∙ tell-hit N t (past ++ (r ∷ [])) opens none
    ∙ ap (λ l. map some (tell H.same N.m N.d content [] l)) (map-append (λ r. r.0) past (r ∷ []))
    ∙ ap (map some) (tell-last H.same N.m N.d content [] (map (λ r. r.0) past) r.0)
    ∙ map-append some told (cond (tell_hit H.same N.m N.d content (map (λ r. r.0) past) r.0) hit miss ∷ []))
