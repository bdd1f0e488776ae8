-- `controller_boundary::bumbazeel_fresh` meets its contract: a fresh record agrees with no stores just where its identity is fine.
-- Assumes nothing.
use Rattle.controller_boundary.specs.Boundary.{identity_of}
use Rattle.controller_boundary.proofs.Steps.{fresh_is, fresh_is_not}
use Rattle.controller_boundary.proofs.bumbazeel_fresh.Goals as goal

pub returns-then-caps-agrees : goal.returns-then-caps-agrees
returns-then-caps-agrees c =
    let a = c.args in
    fresh_is a.caps (identity_of a.oui a.host_scope a.controller_scope) c.read_caps.ensures c.fresh-fresh.ensures
    c.agrees.ensures c.if-caps-agrees.true c.write_record.ensures

pub returns : goal.returns
returns c =
    let a = c.args in
    fresh_is_not a.caps (identity_of a.oui a.host_scope a.controller_scope) c.read_caps.ensures c.fresh-fresh.ensures
    c.agrees.ensures c.if-caps-agrees.false
