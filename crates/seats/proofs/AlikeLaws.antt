-- Two runs of boxes that run a policy blind to seats: what is one for every policy. A kind of box says by `Serves` that its calls on lent memory are
-- those over its policy; then the desk sees the same of two runs.
-- Assumes nothing.
use Rattle.std.specs.Prelude.{◌≡◌, Bool, true, ◌&&◌, ◌||◌, cond, ◌≢◌, ℕ, ◌-◌, ◌*◌, eqb, length}
use Rattle.std.proofs.Math.Path.{refl, ap₂}
use Rattle.std.proofs.Common.{sym, ap, ◌∙◌, subst₂, eqb-true}
use mathlib.Core.List.{List, [], ◌∷◌, ◌++◌, map}
use Rattle.std.proofs.lemmas.List.{length-map}
use Rattle.std.proofs.lemmas.Bool.{eqb-false}
use Rattle.tables.specs.Rows.{flat, zeros}
use Rattle.paper.specs.Cache.{Numbers, Hashing, AddressRow, Outcome, Counters, counted}
use Rattle.paper.specs.KeyedLaws.{by-test}
use Rattle.paper.specs.Engine.{Fixed, labelled}
use Rattle.paper.specs.Lent.{Ask, refused, answered, call_of, about_ask, address_of, lent_block, counts, join, block_after, part_after}
use Rattle.paper.specs.Lent.{Test, test, first, limit_outside, other_length, wrong_block, outside, over}
use Rattle.paper.specs.Reports.{desk, width, report_row, report_of}
use Rattle.paper.specs.Batch.{Batched, start, blocks_in}
use Rattle.paper.specs.BatchLent.{Asking, one, many, report, recount, bad_count, any_outside, BatchAnswer, batched}
use Rattle.arc.specs.Policy.{Policy, serve_by}
use Rattle.blind.specs.Blind.{bare, bares, bare_box, bare_served, bare_folder, Blind}
use Rattle.blind.specs.Serving.{State, served_by, folder_by, served_state}
use Rattle.seats.specs.TwoRuns.{bare_ask, bare_asking, Told, single, folder, number, Runs, Seen, seen, desk_sees}
use Rattle.seats.specs.BareCalls.{bare_call}
use Rattle.seats.proofs.BareCallsLaws.{counted-bare, serve-bare, folder-bare}
use Rattle.seats.specs.Alike.{Tests, batch_told, number_by, outcome_told, table_tests}

-- ---- a call and the same call without its seat
record AskBare (q : Ask) : Type 0 where
  twice : bare_ask (bare_ask q) ≡ bare_ask q
  lent : lent_block (bare_ask q) ≡ lent_block q
  about : about_ask (bare_ask q) ≡ about_ask q
  call : (B : ℕ) → call_of B (bare_ask q) ≡ bare_call (call_of B q)

ask-bare : (q : Ask) → AskBare q
unfolding call_of
ask-bare (Ask.read a l) = record { twice = refl; lent = refl; about = refl; call = λ B. refl }
ask-bare (Ask.through a l z) = record { twice = refl; lent = refl; about = refl; call = λ B. refl }
ask-bare (Ask.back a l z) = record { twice = refl; lent = refl; about = refl; call = λ B. refl }
ask-bare (Ask.invalidate a l z) = record { twice = refl; lent = refl; about = refl; call = λ B. refl }
ask-bare (Ask.look a) = record { twice = refl; lent = refl; about = refl; call = λ B. refl }
ask-bare (Ask.flush k) = record { twice = refl; lent = refl; about = refl; call = λ B. refl }

asking-twice : (q : Asking) → bare_asking (bare_asking q) ≡ bare_asking q
asking-twice (one q) = ap one (ask-bare q).twice
asking-twice (many l buffer) = refl
asking-twice (report w lent) = refl
asking-twice (recount k) = refl

-- the desk's report has nothing of the seats
rows-bare : {F : Type 0} (rows : List (AddressRow F)) → map (report_row desk) (bares true rows) ≡ map (report_row desk) rows
rows-bare [] = refl
rows-bare (r ∷ rs) = ap {B = List (List ℕ)} (λ l. report_row desk r ∷ l) (rows-bare rs)

desk-bare : {F : Type 0} (m : ℕ) (rows : List (AddressRow F)) → report_of desk m (bares true rows) ≡ report_of desk m rows
unfolding report_of
desk-bare m rows = ap₂ (λ l n. flat l ++ zeros ((m - n) * 5)) (rows-bare rows) (length-map rows (bare true))

-- ---- calls over a policy
abbrev bare_state : {F X S : Type 0} → State F X S → State F X S
bare_state s = record { kept = s.kept; box = bare_box true s.box; counters = s.counters }

-- what a call tells: refused, and by its outcome
abbrev pub refused_told : ℕ → Asking → Told
refused_told k (one q) = single (refused k) (lent_block q) []
refused_told k (many l buffer) = folder (BatchAnswer.refused k) buffer
refused_told k (report w lent) = number k
refused_told k (recount c) = number k

number-bare : (N : Numbers) (x : Test) (b : Tests) (k : Counters) (q : Asking) → number_by N x b k (bare_asking q) ≡ number_by N x b k q
number-bare N x b k (one q) =
    let l = (ask-bare q).lent in
    let a = (ask-bare q).about in
    λ i. first (x ∷ test (limit_outside N) 12 ∷ test (b.buffers || wrong_block N.B (l i)) 2 ∷ test (outside N.P (a i).address) 3
    ∷ table_tests b (test ((a i).counts && over k) 9 ∷ []))
number-bare N x b k (many l buffer) = refl
number-bare N x b k (report w lent) = refl
number-bare N x b k (recount c) = refl

refused-bare : (k : ℕ) (q : Asking) → refused_told k (bare_asking q) ≡ refused_told k q
refused-bare k (one q) = ap (λ b. single (refused k) b []) (ask-bare q).lent
refused-bare k (many l buffer) = refl
refused-bare k (report w lent) = refl
refused-bare k (recount c) = refl

module _ {S : Type 0} (N : Numbers) (pol : Policy (Fixed 32) (Fixed N.B) S) where
  abbrev Held : Type 0
  Held = State (Fixed 32) (Fixed N.B) S

  abbrev H : Hashing (Fixed 32) (Fixed N.B)
  H = labelled N

  -- what a served call tells
  abbrev pub served_told : Held → Asking → Told
  served_told s (one q) = outcome_told q (served_by N.B H pol s q).outcome
  served_told s (many l buffer) = batch_told (folder_by N.B H pol s l).batched
  served_told s (report w lent) = number 0
  served_told s (recount k) = number 0

  -- A kind of box whose calls are those over the policy. What two served calls leave passes the same tests, or both leave all as it was.
  pub record Serves {M : Type 0} (runs : Runs M) : Type 0 where
    pub state : M → Held
    pub tests : M → Tests
    pub unfit : Test
    pub number : M → Asking → ℕ
    pub numbered : (t : M) (q : Asking) → number t q ≡ number_by N unfit (tests t) (state t).counters q
    pub counters : (t : M) → runs.counters t ≡ (state t).counters
    pub tells : (t : M) (q : Asking) → number t q ≡ 0 → runs.tells t q ≡ served_told (state t) q
    pub leaves : (t : M) (q : Asking) → number t q ≡ 0 → state (runs.next t q) ≡ served_state N.B H pol (state t) q
    pub passes : (t u : M) (q : Asking) → tests t ≡ tests u → number t q ≡ 0 → number u (bare_asking q) ≡ 0
        → tests (runs.next t q) ≡ tests (runs.next u (bare_asking q))
    pub refuses : (t : M) (q : Asking) → number t q ≢ 0 → runs.tells t q ≡ refused_told (number t q) q
    pub keeps : (t : M) (q : Asking) → number t q ≢ 0 → runs.next t q ≡ t
    pub reports : (t : M) (lent : List ℕ)
        → runs.desk_report t lent ≡ cond (eqb (number t (report desk lent)) 0) (report_of desk N.m (state t).box.rows) lent

  module _ (bl : Blind true pol) where
    served-bare : (s : Held) (q : Ask) → served_by N.B H pol (bare_state s) (bare_ask q) ≡ bare_served true (served_by N.B H pol s q)
    served-bare s q =
        ap (serve_by H pol s.kept (bare_box true s.box)) ((ask-bare q).call N.B) ∙ serve-bare H pol bl s.kept s.box (call_of N.B q)

    files-bare : (s : Held) (l : List ℕ) → folder_by N.B H pol (bare_state s) l ≡ bare_folder true (folder_by N.B H pol s l)
    files-bare s l = folder-bare H pol bl (record { kept = s.kept; batched = start s.box s.counters }) l

    outcome-bare : (q : Ask) (o : Outcome (Fixed 32) (Fixed N.B)) → outcome_told (bare_ask q) o ≡ outcome_told q o
    outcome-bare q o = let x = ask-bare q in rw (x.lent, x.about) refl

    told-bare : (s : Held) (q : Asking) → served_told (bare_state s) (bare_asking q) ≡ served_told s q
    told-bare s (one q) = ap (λ o. outcome_told (bare_ask q) o.outcome) (served-bare s q) ∙ outcome-bare q (served_by N.B H pol s q).outcome
    told-bare s (many l buffer) = ap (λ r. batch_told r.batched) (files-bare s l)
    told-bare s (report w lent) = refl
    told-bare s (recount k) = refl

    state-bare : (s : Held) (q : Asking) → served_state N.B H pol (bare_state s) (bare_asking q) ≡ bare_state (served_state N.B H pol s q)
    state-bare s (one q) =
        let o = served-bare s q in
        let c = (ask-bare q).call N.B in
        let k = counted-bare H s.counters (call_of N.B q) (served_by N.B H pol s q).outcome in
        (λ i. record { kept = (o i).kept; box = (o i).outcome.box; counters = counted s.counters (c i) (o i).outcome })
        ∙ (λ i. record { kept = (served_by N.B H pol s q).kept; box = bare_box true (served_by N.B H pol s q).outcome.box; counters = k i })
    state-bare s (many l buffer) =
        let r = files-bare s l in
        λ i. record { kept = (r i).kept; box = (r i).batched.box; counters = (r i).batched.counters }
    state-bare s (report w lent) = refl
    state-bare s (recount k) = refl

    module _ {M : Type 0} (runs : Runs M) (sv : Serves runs) where
      -- Two lent memories are alike: the same but for seats, and they pass the same tests.
      record Like (t u : M) : Type 0 where
        state : bare_state (sv.state t) ≡ bare_state (sv.state u)
        tests : sv.tests t ≡ sv.tests u

      like-itself : (t : M) → Like t t
      like-itself t = record { state = refl; tests = refl }

      -- what is got without seats is the same of both
      same-for : {A : Type 0} (f g : Held → Asking → A) → ((s : Held) (q : Asking) → f (bare_state s) (bare_asking q) ≡ g s q)
          → (t u : M) (q : Asking) → Like t u → g (sv.state t) q ≡ g (sv.state u) (bare_asking q)
      same-for f g e t u q k =
          sym (e (sv.state t) q) ∙ ap₂ f k.state (sym (asking-twice q)) ∙ e (sv.state u) (bare_asking q)

      same_number : (t u : M) (q : Asking) → Like t u → sv.number t q ≡ sv.number u (bare_asking q)
      same_number t u q k =
          let c = ap (λ (s : Held). s.counters) k.state in
          sv.numbered t q
          ∙ ap₂ (λ b c. number_by N sv.unfit b c q) k.tests c
          ∙ sym (number-bare N sv.unfit (sv.tests u) (sv.state u).counters q)
          ∙ sym (sv.numbered u (bare_asking q))

      tells-like : (t u : M) (q : Asking) → Like t u → runs.tells t q ≡ runs.tells u (bare_asking q)
      tells-like t u q k =
          let n = same_number t u q k in
          by-test (eqb (sv.number t q) 0)
          (λ y.
          let z = eqb-true (sv.number t q) 0 y in
          sv.tells t q z ∙ same-for served_told served_told told-bare t u q k ∙ sym (sv.tells u (bare_asking q) (sym n ∙ z)))
          (λ y.
          let z = eqb-false (sv.number t q) 0 y in
          sv.refuses t q z ∙ sym (refused-bare (sv.number t q) q) ∙ ap (λ x. refused_told x (bare_asking q)) n
          ∙ sym (sv.refuses u (bare_asking q) (λ w. z (n ∙ w))))

      next_like : (t u : M) (q : Asking) → Like t u → Like (runs.next t q) (runs.next u (bare_asking q))
      next_like t u q k =
          let r = bare_asking q in
          let n = same_number t u q k in
          by-test (eqb (sv.number t q) 0)
          (λ y.
          let z = eqb-true (sv.number t q) 0 y in
          let z' = sym n ∙ z in
          let s = ap bare_state (sv.leaves t q z)
          ∙ same-for (served_state N.B H pol) (λ x a. bare_state (served_state N.B H pol x a)) state-bare t u q k
          ∙ sym (ap bare_state (sv.leaves u r z')) in
          record { state = s; tests = sv.passes t u q k.tests z z' })
          (λ y.
          let z = eqb-false (sv.number t q) 0 y in
          subst₂ Like (sym (sv.keeps t q z)) (sym (sv.keeps u r (λ w. z (n ∙ w)))) k)

      desk-like : (lent : List ℕ) (t u : M) → Like t u → runs.desk_report t lent ≡ runs.desk_report u lent
      desk-like lent t u k =
          let rows = sym (desk-bare N.m (sv.state t).box.rows)
          ∙ ap (λ (s : Held). report_of desk N.m s.box.rows) k.state
          ∙ desk-bare N.m (sv.state u).box.rows in
          sv.reports t lent ∙ ap₂ (λ n x. cond (eqb n 0) x lent) (same_number t u (report desk lent) k) rows ∙ sym (sv.reports u lent)

      seen-like : (lent : List ℕ) (t u : M) (q : Asking) → Like t u → seen runs lent t q ≡ seen runs lent u (bare_asking q)
      seen-like lent t u q k =
          let t' = runs.next t q in
          let u' = runs.next u (bare_asking q) in
          let x = next_like t u q k in
          let a = tells-like t u q k in
          let d = desk-like lent t' u' x in
          let c = sv.counters t' ∙ ap (λ (s : Held). s.counters) x.state ∙ sym (sv.counters u') in
          λ i. record { told = a i; report = d i; counters = c i }

      -- a list shows the desk what it shows without its seats
      sees-like : (lent : List ℕ) (t u : M) (qs : List Asking) → Like t u → desk_sees runs lent t qs ≡ desk_sees runs lent u (map bare_asking qs)
      unfolding desk_sees
      sees-like lent t u [] k = refl
      sees-like lent t u (q ∷ qs) k =
          ap₂ {C = List Seen} (λ x l. x ∷ l) (seen-like lent t u q k)
          (sees-like lent (runs.next t q) (runs.next u (bare_asking q)) qs (next_like t u q k))

      pub runs-alike : (lent : List ℕ) (t : M) (qs rs : List Asking) → map bare_asking qs ≡ map bare_asking rs
          → desk_sees runs lent t qs ≡ desk_sees runs lent t rs
      runs-alike lent t qs rs e =
          sees-like lent t t qs (like-itself t) ∙ ap (desk_sees runs lent t) e ∙ sym (sees-like lent t t rs (like-itself t))
