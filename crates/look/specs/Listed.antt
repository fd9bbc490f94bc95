-- Demand 3 of the calls on lent bytes: from an opened box, for every list of calls of which each meets its contract, what each answers and leaves is the
-- paper's, and `Demand3` holds of the list. Assumes nothing.
use Rattle.std.specs.Prelude.{◌≡◌, refl, ℕ, eqb, Result}
use Rattle.std.proofs.Common.{sym, ap, ◌∙◌, subst, subst₂, eqb-true}
use mathlib.Core.List.{List, [], ◌∷◌, map}
use Rattle.std.proofs.Math.Option.{Option, none}
use Rattle.std.proofs.lemmas.Bool.{eqb-false}
use Rattle.counters.specs.declared.Counters as Code
use Rattle.paper.specs.KeyedLaws.{by-test}
use Rattle.paper.specs.Cache.{Numbers, Counters}
use Rattle.paper.specs.Lent.{Lent, Ask, After, opening, calling, refusal, served, call, opened, with_label}
use Rattle.paper.proofs.RefusalLaws.{served-is, keeps, label-carried}
use Rattle.paper.specs.Demand3.{next, Demand3}
use Rattle.paper.specs.BatchLent.{Asking, one, many, report, BatchAfter, call_batch}
use Rattle.paper.specs.Reports.{Reader, report_refusal, reported}
use Rattle.paper.specs.Demand3Laws.{Written}
use Rattle.paper.proofs.Demand3Laws.{demand-3, opened-written, next-written, look-stays}
use Rattle.parts.specs.declared.BoxRecord.{BoxRecord}
use Rattle.parts.specs.Rep.{numbers_of}
use Rattle.refusals.specs.Given.{counters_of, lent}
use Rattle.outcome.specs.declared.Outcome.{Outcome}
use Rattle.open.specs.Contract.{Opened, begun, opens}
use Rattle.refusal.specs.declared.Refusal.{Refusal}
use Rattle.refusal.specs.Numbers.{number_of}
use Rattle.policy.specs.declared.Answered.{Answered}
use Rattle.policy.specs.declared.Batch.{Batch}
use Rattle.policy.specs.Contract.{answer_of, Told, told, called, many_answer_of, ToldMany, told_many, called_many}

-- what passes from call to call
pub record Kept : Type 0 where
  pub box : BoxRecord
  pub disk : List ℕ
  pub flash : List ℕ
  pub addresses : List ℕ
  pub blocks : List ℕ
  pub counters : Code.Counters

abbrev pub lent_in : Kept → Lent
lent_in y = lent y.box y.disk y.flash y.addresses y.blocks (counters_of y.counters)

-- a single call that was made: what was asked, what it answered, what it left of what passes on and of the one block lent to it, and the part it returned
pub record Single : Type 0 where
  pub ask : Ask
  pub answer : Result Answered Refusal
  pub left : Kept
  pub block : Option (List ℕ)
  pub part : List ℕ

abbrev pub after_of : Single → After
after_of c = record { answer = answer_of c.answer; lent = lent_in c.left; block = c.block; part = c.part }

-- the contract of a read, a write or a flush; none returns a part
abbrev pub Calls : Kept → Single → Type 0
Calls y c =
    (told (record { answer = c.answer; box_record = c.left.box; counters = c.left.counters })
    c.left.disk c.left.flash c.left.addresses c.left.blocks c.block
    ≡ called y.box (lent_in y) c.ask)
    × (c.part ≡ [])

-- the contracts of `look` and `look_part`; a look is lent nothing to write
abbrev pub Looks : Kept → Single → Type 0
Looks y c =
    (answer_of c.answer ≡ (call (numbers_of y.box) (lent_in y) c.ask).answer)
    × (c.part ≡ (call (numbers_of y.box) (lent_in y) c.ask).part)
    × (c.left ≡ y)
    × (c.block ≡ none)

abbrev pub Meets : Kept → Single → Ask → Type 0
Meets y c (Ask.look a) = Looks y c
Meets y c (Ask.read a l) = Calls y c
Meets y c (Ask.through a l z) = Calls y c
Meets y c (Ask.back a l z) = Calls y c
Meets y c (Ask.invalidate a l z) = Calls y c
Meets y c (Ask.flush k) = Calls y c

-- a folder read that was made: the addresses asked for, the buffer lent to it, what it answered, and what it left of what passes on and of the buffer
pub record Folder : Type 0 where
  pub asked : List ℕ
  pub lent_buffer : List ℕ
  pub answer : Result Batch Refusal
  pub left : Kept
  pub buffer : List ℕ

abbrev pub batch_of : Folder → BatchAfter
batch_of c = record { answer = many_answer_of c.answer; lent = lent_in c.left; buffer = c.buffer }

-- the contract of `read_many`
abbrev pub ReadsMany : Kept → Folder → Type 0
ReadsMany y c =
    told_many (record { answer = c.answer; box_record = c.left.box; counters = c.left.counters })
    c.left.disk c.left.flash c.left.addresses c.left.blocks c.buffer
    ≡ called_many y.box (lent_in y) c.asked c.lent_buffer

-- a report that was made: whose it is, the bytes lent to it, the number it returned, those bytes afterwards, and what passes on
pub record Report : Type 0 where
  pub reader : Reader
  pub lent_bytes : List ℕ
  pub number : ℕ
  pub bytes : List ℕ
  pub left : Kept

-- the contract of `report`, which is lent nothing else to write
abbrev pub Reports : Kept → Report → Type 0
Reports y c =
    (c.number ≡ report_refusal (numbers_of y.box) (lent_in y) c.reader c.lent_bytes)
    × (c.bytes ≡ reported (numbers_of y.box) (lent_in y) c.reader c.lent_bytes)
    × (c.left ≡ y)

-- a call of any kind: what it is in the paper's list, what it left, and its contract
pub data Made : Type 0 where
  single : Single → Made
  folder : Folder → Made
  reporting : Report → Made

abbrev pub asked_by : Made → Asking
asked_by (single c) = one c.ask
asked_by (folder c) = many c.asked c.lent_buffer
asked_by (reporting c) = report c.reader c.lent_bytes

abbrev pub left_by : Made → Kept
left_by (single c) = c.left
left_by (folder c) = c.left
left_by (reporting c) = c.left

abbrev pub MeetsIts : Kept → Made → Type 0
MeetsIts y (single c) = Meets y c c.ask
MeetsIts y (folder c) = ReadsMany y c
MeetsIts y (reporting c) = Reports y c

-- calls one after the other, each on what the last one left
unfoldable pub InTurn : Kept → List Made → Type 0
InTurn y [] = Unit {0}
InTurn y (c ∷ cs) = MeetsIts y c × InTurn (left_by c) cs

-- it answers and leaves what the paper's call does
abbrev pub AsPaper : Numbers → Lent → Made → Type 0
AsPaper N t (single c) = after_of c ≡ call N t c.ask
AsPaper N t (folder c) = batch_of c ≡ call_batch N t c.asked c.lent_buffer
AsPaper N t (reporting c) =
    (c.number ≡ report_refusal N t c.reader c.lent_bytes) × (c.bytes ≡ reported N t c.reader c.lent_bytes) × (lent_in c.left ≡ t)

-- each does, on what the paper's last call left
unfoldable pub Follows : Numbers → Lent → List Made → Type 0
Follows N t [] = Unit {0}
Follows N t (c ∷ cs) = (numbers_of (left_by c).box ≡ N) × AsPaper N t c × Follows N (next N t (asked_by c)) cs

-- a look is lent no block
look-block : (N : Numbers) (t : Lent) (a : ℕ) → (call N t (Ask.look a)).block ≡ none
unfolding served
look-block N t a =
    let q = Ask.look a in
    by-test (eqb (refusal N t (calling q)) 0)
    (λ y. ap (λ (x : After). x.block) (served-is N t q (eqb-true (refusal N t (calling q)) 0 y)))
    (λ y. (keeps N t q (eqb-false (refusal N t (calling q)) 0 y)).block)

module _ (N : Numbers) where
  -- the bytes are the paper's
  pub record Is (y : Kept) (t : Lent) : Type 0 where
    pub numbers : numbers_of y.box ≡ N
    pub lent : lent_in y ≡ t

  called_is : (y : Kept) (t : Lent) (c : Single) → Is y t → Calls y c → (numbers_of c.left.box ≡ N) × (after_of c ≡ call N t c.ask)
  called_is y t c i m =
      let e = m.0 in
      let p = m.1 in
      let a : after_of c ≡ call (numbers_of y.box) (lent_in y) c.ask
      = (λ j. record { answer = answer_of c.answer; lent = lent_in c.left; block = c.block; part = p j }) ∙ ap (λ (x : Told). x.after) e in
      (ap (λ (x : Told). x.numbers) e ∙ i.numbers, subst₂ (λ (M : Numbers) (x : Lent). after_of c ≡ call M x c.ask) i.numbers i.lent a)

  looked-is : (y : Kept) (t : Lent) (c : Single) (a : ℕ) → Is y t → Written N t → c.ask ≡ Ask.look a → Looks y c
      → (numbers_of c.left.box ≡ N) × (after_of c ≡ call N t c.ask)
  looked-is y t c a i w q m =
      let e : answer_of c.answer ≡ (call N t c.ask).answer
      = subst₂ (λ (M : Numbers) (x : Lent). answer_of c.answer ≡ (call M x c.ask).answer) i.numbers i.lent m.0 in
      let p : c.part ≡ (call N t c.ask).part
      = subst₂ (λ (M : Numbers) (x : Lent). c.part ≡ (call M x c.ask).part) i.numbers i.lent m.1 in
      let l : lent_in c.left ≡ (call N t c.ask).lent
      = ap lent_in m.2 ∙ i.lent ∙ sym (subst (λ (x : Ask). (call N t x).lent ≡ t) (sym q) (look-stays N t a w)) in
      let b : c.block ≡ (call N t c.ask).block
      = m.3 ∙ sym (subst (λ (x : Ask). (call N t x).block ≡ none) (sym q) (look-block N t a)) in
      (ap (λ (x : Kept). numbers_of x.box) m.2 ∙ i.numbers, λ j. record { answer = e j; lent = l j; block = b j; part = p j })

  meets-is : (y : Kept) (t : Lent) (c : Single) (q : Ask) → Is y t → Written N t → c.ask ≡ q → Meets y c q
      → (numbers_of c.left.box ≡ N) × (after_of c ≡ call N t c.ask)
  meets-is y t c (Ask.look a) i w e m = looked-is y t c a i w e m
  meets-is y t c (Ask.read a l) i w e m = called_is y t c i m
  meets-is y t c (Ask.through a l z) i w e m = called_is y t c i m
  meets-is y t c (Ask.back a l z) i w e m = called_is y t c i m
  meets-is y t c (Ask.invalidate a l z) i w e m = called_is y t c i m
  meets-is y t c (Ask.flush k) i w e m = called_is y t c i m

  folder-is : (y : Kept) (t : Lent) (c : Folder) → Is y t → ReadsMany y c
      → (numbers_of c.left.box ≡ N) × (batch_of c ≡ call_batch N t c.asked c.lent_buffer)
  folder-is y t c i m = (
    ap (λ (x : ToldMany). x.numbers) m ∙ i.numbers,
    subst₂ (λ (M : Numbers) (x : Lent). batch_of c ≡ call_batch M x c.asked c.lent_buffer) i.numbers i.lent (ap (λ (x : ToldMany). x.after) m),
  )

  report-is : (y : Kept) (t : Lent) (c : Report) → Is y t → Reports y c → (numbers_of c.left.box ≡ N) × AsPaper N t (reporting c)
  report-is y t c i m =
      let number = subst₂ (λ (M : Numbers) (x : Lent). c.number ≡ report_refusal M x c.reader c.lent_bytes) i.numbers i.lent m.0 in
      let bytes = subst₂ (λ (M : Numbers) (x : Lent). c.bytes ≡ reported M x c.reader c.lent_bytes) i.numbers i.lent m.1 in
      (ap (λ (x : Kept). numbers_of x.box) m.2 ∙ i.numbers, (number, bytes, ap lent_in m.2 ∙ i.lent))

  made-is : (y : Kept) (t : Lent) (c : Made) → Is y t → Written N t → MeetsIts y c → (numbers_of (left_by c).box ≡ N) × AsPaper N t c
  made-is y t (single c) i w m = meets-is y t c c.ask i w refl m
  made-is y t (folder c) i w m = folder-is y t c i m
  made-is y t (reporting c) i w m = report-is y t c i m

  left-lent : (t : Lent) (c : Made) → AsPaper N t c → lent_in (left_by c) ≡ next N t (asked_by c)
  left-lent t (single c) e = ap (λ (x : After). x.lent) e
  left-lent t (folder c) e = ap (λ (x : BatchAfter). x.lent) e
  left-lent t (reporting c) e = e.2

  pub follows : (y : Kept) (t : Lent) (cs : List Made) → Is y t → Written N t → InTurn y cs → Follows N t cs
  unfolding InTurn Follows
  follows y t [] i w m = tt
  follows y t (c ∷ cs) i w m =
      let h = made-is y t c i w m.0 in (
        h.0,
        h.1,
        follows (left_by c) (next N t (asked_by c)) cs (record { numbers = h.0; lent = left-lent t c h.1 }) (next-written N t (asked_by c) w) m.1,
      )

-- what an opening left
abbrev pub first : Outcome (Unit {0}) BoxRecord → (disk flash addresses blocks : List ℕ) → Kept
first r disk flash addresses blocks =
    record { box = r.box_record; disk = disk; flash = flash; addresses = addresses; blocks = blocks; counters = r.counters }
