-- The numbers by the opening's answer, then the label. Assumes nothing.
use Rattle.std.proofs.Common.{refl, ap, ◌∙◌, ne_eqb}
use Rattle.refusal.specs.Numbers.{code, refused}
use Rattle.fields.specs.Fields.{put8, put_label}
use Rattle.fields.proofs.write_opening.Goals as goal
use Rattle.fields.proofs.write_opening.Goals.{in-Ok, in-Err}

pub returns : goal.returns
unfolding put8
returns c =
    let label = c.args.o.box_record.label in
    elim c.match-o.branch [
      | in-Ok w ↦ (c.number.ensures, c.put_label.ensures ∙ ap (put_label label) (w.state-is ∙ w.put_state.ensures ∙ rw w.in-Ok.is refl))
      | in-Err w ↦ (
        c.number.ensures,
        c.put_label.ensures
            ∙ ap (put_label label) (w.state-is ∙ w.put8.ensures ∙ rw (w.in-Err.is, ne_eqb (code w.in-Err.field-0) 0 (refused w.in-Err.field-0)) refl),
      )
    ]
