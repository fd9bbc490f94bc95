-- By whether there is a row, whether it is dirty, and its fingerprint. Assumes nothing.
use mathlib.Core.Path.{sym, ◌∙◌}
use mathlib.Core.Bool.{true, false}
use Rattle.serve.specs.ServeLaws.{value_none, value-dirty, value-clean}
use Rattle.std.proofs.Common.{rules}
use Rattle.serve.proofs.dirty_value.Goals as goal

pub returns-then-b-i : goal.returns-then-b-i
returns-then-b-i c =
    let a = c.args in
    λ B l f h e. value_none B a.b.blocks a.b.rows a.b.held a.addrs.now l h a.a.0 c.row_of-i.result (c.row_of-i.ensures.by_index a.b.blocks a.b.rows l h) f a.g.now e c.if-b-i.true

pub returns-then-is_dirty : goal.returns-then-is_dirty
returns-then-is_dirty c =
    let a = c.args in
    λ B l f h e. value-dirty B a.b.blocks a.b.rows a.b.held a.addrs.now l h a.a.0 c.row_of-i.result (c.row_of-i.ensures.by_index a.b.blocks a.b.rows l h) f a.g.now e c.if-b-i.false (sym c.is_dirty.ensures ∙ c.if-is_dirty.true)

pub returns-then-fingerprint_is : goal.returns-then-fingerprint_is
returns-then-fingerprint_is c =
    let a = c.args in
    λ B l f h e. value-clean B a.b.blocks a.b.rows a.b.held a.addrs.now l h a.a.0 c.row_of-i.result (c.row_of-i.ensures.by_index a.b.blocks a.b.rows l h) f a.g.now e c.if-b-i.false (sym c.is_dirty.ensures ∙ c.if-is_dirty.false) true (sym c.fingerprint_is.ensures ∙ c.if-fingerprint_is.true)

pub returns : goal.returns
returns c =
    let a = c.args in
    λ B l f h e. value-clean B a.b.blocks a.b.rows a.b.held a.addrs.now l h a.a.0 c.row_of-i.result (c.row_of-i.ensures.by_index a.b.blocks a.b.rows l h) f a.g.now e c.if-b-i.false (sym c.is_dirty.ensures ∙ c.if-is_dirty.false) false (sym c.fingerprint_is.ensures ∙ c.if-fingerprint_is.false)
