-- What agreement says of the numbers, and demand 2's reading back: the header that the writer makes from an agreeing record is checked
-- by the host to exactly what it was written from, on both pages.
-- Assumes nothing.
use Rattle.std.specs.Prelude.{ℕ, zero, suc, ◌*◌, ◌^◌, ◌≤◌, ◌<◌, ◌≡◌, refl, List, Bool, true, false, None, ◌||◌, length, get_or, ltb, eqb}
use Rattle.std.proofs.Common.{arith, leb-true, ltb-true, eqb-true, le-leb, lt-ltb, eq-eqb}
use Rattle.choices.specs.Tests.{holds, each, or_cases, clash, implied, implies}
use Rattle.pages.specs.Pages.{host_page, controller_page, telemetry_page, block}
use Rattle.lastblocks.specs.LastBlocks.{area4_ok, last_ok, greatest_of}
use Rattle.lastblocks.specs.Rule.{LastRule, last_rule, rule_last}
use Rattle.pages.specs.declared.Caps.{Caps}
use Rattle.pages.specs.Laws.{by_page}
use Rattle.lastblocks.specs.Laws.{rule_ranged}
use Rattle.header.specs.Header.{header_of, fields_ok, check_of}
use Rattle.header.specs.Back.{header_reads_back}
use Rattle.records.specs.declared.Identity.{Identity}
use Rattle.records.specs.declared.Record.{Record}
use Rattle.records.specs.Records.{identity_ok, store_ok, controller_ok, agrees_with, host_fields, controller_fields, fields_for, fresh_of}

-- ---- agreement as facts, one way and the other

pub record StoreFits (da4s : Bool) (last : List ℕ) (store : ℕ) : Type 0 where
  pub rule : LastRule da4s last
  pub room : block * greatest_of last ≤ store

pub record ControllerFits (da4s : Bool) (tcda : ℕ) (last : List ℕ) (store : ℕ) : Type 0 where
  pub fits : StoreFits da4s last store
  pub flag : tcda ≤ 1
  pub empty : tcda ≡ 0 → greatest_of last ≡ 0
  pub some : tcda ≡ 1 → 0 < get_or last 2 0

pub record Agreed (r : Record) (hostStore controllerStore : ℕ) : Type 0 where
  pub host : StoreFits r.caps.da4s r.host.last hostStore
  pub controller : ControllerFits r.caps.da4s r.controller.tcda r.controller.last controllerStore
  pub identity : identity_ok r.identity ≡ true

store_fits : (da4s : Bool) (last : List ℕ) (store : ℕ) → store_ok da4s last store ≡ true → StoreFits da4s last store
unfolding store_ok
store_fits da4s last store e = record { rule = last_rule da4s last (each _ e 0); room = leb-true _ _ (each _ e 1) }

fits_store : (da4s : Bool) (last : List ℕ) (store : ℕ) → StoreFits da4s last store → store_ok da4s last store ≡ true
unfolding store_ok holds
fits_store da4s last store f = rw (rule_last da4s last f.rule) (le-leb _ _ f.room)

controller_fits : (da4s : Bool) (tcda : ℕ) (last : List ℕ) (store : ℕ) → controller_ok da4s tcda last store ≡ true → ControllerFits da4s tcda last store
unfolding controller_ok
controller_fits da4s tcda last store e = record {
  fits = store_fits da4s last store (each _ e 0);
  flag = leb-true _ _ (each _ e 1);
  empty = λ z. eqb-true _ _ (implied (eqb tcda 0) _ (each _ e 2) (eq-eqb tcda 0 z));
  some = λ z. ltb-true _ _ (implied (eqb tcda 1) _ (each _ e 3) (eq-eqb tcda 1 z));
}

fits_controller : (da4s : Bool) (tcda : ℕ) (last : List ℕ) (store : ℕ) → ControllerFits da4s tcda last store → controller_ok da4s tcda last store ≡ true
unfolding controller_ok holds
fits_controller da4s tcda last store f =
    rw (
      fits_store da4s last store f.fits,
      le-leb tcda 1 f.flag,
      implies (eqb tcda 0) (eqb (greatest_of last) 0) (λ z. eq-eqb _ 0 (f.empty (eqb-true tcda 0 z))),
    )
    (implies (eqb tcda 1) (ltb 0 (get_or last 2 0)) (λ z. lt-ltb 0 _ (f.some (eqb-true tcda 1 z))))

pub agreed : (r : Record) (hostStore controllerStore : ℕ) → agrees_with r hostStore controllerStore ≡ true → Agreed r hostStore controllerStore
unfolding agrees_with
agreed r hostStore controllerStore e = record {
  host = store_fits _ _ _ (each _ e 0);
  controller = controller_fits _ _ _ _ (each _ e 1);
  identity = each _ e 2;
}

pub agrees_where : (r : Record) (hostStore controllerStore : ℕ) → Agreed r hostStore controllerStore → agrees_with r hostStore controllerStore ≡ true
unfolding agrees_with holds
agrees_where r hostStore controllerStore a = rw (fits_store _ _ _ a.host, fits_controller _ _ _ _ a.controller) a.identity

-- ---- what the types say

-- the lengths that the types of a record's arrays say
pub record Sized (r : Record) : Type 0 where
  pub host_four : length r.host.last ≡ 4
  pub host_reason : length r.host.reason ≡ 128
  pub controller_four : length r.controller.last ≡ 4
  pub controller_reason : length r.controller.reason ≡ 128

-- the ranges that the types of a record's numbers say
pub record Ranged (r : Record) : Type 0 where
  pub oui : r.identity.oui < 256 ^ 4
  pub host_last : (i : ℕ) → get_or r.host.last i 0 < 256 ^ 4
  pub controller_last : (i : ℕ) → get_or r.controller.last i 0 < 256 ^ 4
  pub host_generation : r.host.generation < 256
  pub controller_generation : r.controller.generation < 256

-- all that the types of a record say
pub record Typed (r : Record) : Type 0 where
  pub sized : Sized r
  pub ranged : Ranged r

record Known (i : Identity) : Type 0 where
  host_scope : i.hostscope ≤ 2
  controller_scope : i.controllerscope ≤ 2
  short : i.oui < 16777216

scope_most : (s : ℕ) → eqb s 1 || eqb s 2 ≡ true → s ≤ 2
scope_most s e = or_cases (eqb s 1) (eqb s 2) e (λ p. let q = eqb-true s 1 p in omega arith) (λ p. let q = eqb-true s 2 p in omega arith)

known : (i : Identity) → identity_ok i ≡ true → Known i
unfolding identity_ok
known i e = record {
  host_scope = scope_most i.hostscope (each _ e 0);
  controller_scope = scope_most i.controllerscope (each _ e 1);
  short = ltb-true _ _ (each _ e 2);
}

-- an agreeing record with whole arrays, whose generations are bytes, is all that its types say
pub agreed_typed : (r : Record) (hostStore controllerStore : ℕ) → agrees_with r hostStore controllerStore ≡ true → Sized r
    → r.host.generation < 256 → r.controller.generation < 256 → Typed r
agreed_typed r hostStore controllerStore e z host controller =
    let a = agreed r hostStore controllerStore e in
    record {
      sized = z;
      ranged = record {
        oui = omega (arith, (known r.identity a.identity).short);
        host_last = rule_ranged r.caps.da4s r.host.last a.host.rule z.host_four;
        controller_last = rule_ranged r.caps.da4s r.controller.last a.controller.fits.rule z.controller_four;
        host_generation = host;
        controller_generation = controller;
      };
    }

-- ---- reading back

-- TCDA 0, or not empty
available : (tcda a3 : ℕ) → tcda ≤ 1 → (tcda ≡ 1 → 0 < a3) → eqb tcda 0 || ltb 0 a3 ≡ true
available zero a3 h f = refl
available (suc zero) a3 h f = rw (lt-ltb 0 a3 (f refl))
available (suc (suc n)) a3 h f = absurd (omega arith)

host_fine : (r : Record) (hostStore controllerStore : ℕ) → Agreed r hostStore controllerStore → fields_ok host_page r.caps.da4s (host_fields r) ≡ true
unfolding fields_ok holds host_fields
host_fine r hostStore controllerStore a =
    rw (
      rule_last r.caps.da4s r.host.last a.host.rule,
      le-leb r.identity.hostscope 2 (known r.identity a.identity).host_scope,
      le-leb r.controller.tcda 1 a.controller.flag,
    )

controller_fine : (r : Record) (hostStore controllerStore : ℕ) → Agreed r hostStore controllerStore → fields_ok controller_page r.caps.da4s (controller_fields r) ≡ true
unfolding fields_ok holds controller_fields
controller_fine r hostStore controllerStore a =
    rw (
      rule_last r.caps.da4s r.controller.last a.controller.fits.rule,
      le-leb r.identity.controllerscope 2 (known r.identity a.identity).controller_scope,
      le-leb r.controller.tcda 1 a.controller.flag,
    )
    (available r.controller.tcda (get_or r.controller.last 2 0) a.controller.flag a.controller.some)

-- Demand 2: the header of an agreeing record is checked to exactly the fields that it was written from.
pub record_reads_back : (r : Record) (hostStore controllerStore : ℕ) (page : ℕ) → Sized r → agrees_with r hostStore controllerStore ≡ true
    → telemetry_page page ≡ true
    → check_of page r.caps.da4s (header_of (fields_for page r)) ≡ record { fault = None; fields = fields_for page r }
unfolding fields_for host_fields controller_fields
record_reads_back r hostStore controllerStore page z e p =
    let a = agreed r hostStore controllerStore e in
    let k = known r.identity a.identity in
    by_page (λ (n : ℕ). check_of n r.caps.da4s (header_of (fields_for n r)) ≡ record { fault = None; fields = fields_for n r }) page p
    (header_reads_back r.caps.da4s (host_fields r)
    (record { oui = k.short; four = z.host_four; host = λ n. clash refl n; reason = z.host_reason })
    (host_fine r hostStore controllerStore a))
    (header_reads_back r.caps.da4s (controller_fields r)
    (record { oui = k.short; four = z.controller_four; host = λ n. refl; reason = z.controller_reason })
    (controller_fine r hostStore controllerStore a))

no_area4_lem : (da4s : Bool) → area4_ok da4s 0 0 ≡ true
no_area4_lem true = refl
no_area4_lem false = refl

-- a fresh record of a fine identity agrees with any stores
pub fresh_agrees : (caps : Caps) (identity : Identity) (hostStore controllerStore : ℕ) → identity_ok identity ≡ true
    → agrees_with (fresh_of caps identity) hostStore controllerStore ≡ true
unfolding fresh_of agrees_with controller_ok store_ok last_ok holds greatest_of
fresh_agrees caps identity hostStore controllerStore e =
    rw (no_area4_lem caps.da4s, le-leb 0 hostStore (omega arith), le-leb 0 controllerStore (omega arith)) e

-- and is all that its types say
pub fresh_typed : (caps : Caps) (identity : Identity) → identity_ok identity ≡ true → Typed (fresh_of caps identity)
unfolding fresh_of
fresh_typed caps identity e =
    agreed_typed (fresh_of caps identity) 0 0 (fresh_agrees caps identity 0 0 e)
    (record { host_four = refl; host_reason = refl; controller_four = refl; controller_reason = refl }) (omega arith) (omega arith)
