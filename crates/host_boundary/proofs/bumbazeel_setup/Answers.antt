-- `host_boundary::bumbazeel_setup` meets its contract: the setup of the plan that the arguments say, written.
-- Assumes nothing.
use mathlib.Core.Path.{ap, ◌∙◌}
use Rattle.collection.specs.Collection.{setup_of}
use Rattle.pages.specs.declared.Caps.{Caps}
use Rattle.plans.specs.declared.Plan.{Plan}
use Rattle.host_boundary.specs.Boundary.{flag_of}
use Rattle.host_boundary.specs.Steps.{setup_is}
use Rattle.host_boundary.proofs.bumbazeel_setup.Goals as goal

pub returns : goal.returns
returns c =
    let a = c.args in
    let plan : Caps → Plan = λ x. record { page = a.page; create = flag_of a.create; area = a.area; chunk = a.chunk; attempts = a.attempts; room = a.room; caps = x } in
    setup_is (c.setup-x.ensures ∙ ap (λ (x : Caps). setup_of (plan x)) c.read_caps-can.ensures)
    c.write_state.ensures (c.write_next.ensures ∙ rw c.numbered-told.ensures) (c.kind_of.ensures ∙ rw c.numbered-told.ensures)
