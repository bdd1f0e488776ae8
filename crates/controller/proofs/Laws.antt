-- What any command, capture and drop keep: a refusal changes nothing, an agreeing world stays one, and nothing changes but by a create, an
-- acknowledgement, a capture or a drop.
-- Assumes nothing.
use Rattle.std.specs.Prelude.{ℕ, ◌*◌, ◌≡◌, refl, List, [], Bool, true, false, not, length, take, eqb}
use Rattle.std.proofs.Common.{sym, ap, subst, ◌∙◌, arith, eqb-true, eq-eqb, ne_eqb}
use Rattle.std.proofs.lemmas.Bool.{not-true}
use Rattle.choices.specs.Choice.{pick_cases}
use Rattle.choices.specs.Tests.{by_test, same_or_not, and_left, and_right}
use Rattle.copies.specs.Parts.{zeros, put_length}
use Rattle.answers.specs.Answers.{success}
use Rattle.pages.specs.Pages.{host_page, controller_page, block, last_of}
use Rattle.lastblocks.specs.LastBlocks.{greatest_of}
use Rattle.lastblocks.specs.Rule.{LastRule}
use Rattle.trimming.specs.Trimming.{top_of, trimmed_to, trim_of}
use Rattle.trimming.specs.Trimmed.{trim_keeps_rule, trim_greatest, trim_three}
use Rattle.words.specs.declared.Command.{Command}
use Rattle.words.specs.declared.Words.{Words}
use Rattle.records.specs.Records.{agrees_with}
use Rattle.records.specs.Back.{StoreFits, Typed, agreed, agrees_where, agreed_typed}
use Rattle.verdicts.specs.Verdicts.{capture_answer, class_for}
use Rattle.verdicts.specs.Accepted.{Whole, Accepted, accepted, Captures, captures}
use Rattle.captures.specs.Captures.{cleared_of, dropped_of}
use Rattle.controller.specs.Asked.{asked, verdict, Agrees}
use Rattle.controller.proofs.Steps.{create_host, host_stays, captured, no_capture}
use Rattle.controller.specs.Controller.{World, Candidate, host_captured, controller_captured, outcome, Outcome, lent_by, acknowledges, cleared, before, sent_of, afterwards, answered, command_of, capture_answered, capture_of, host_dropped, drop_of}

-- ---- a command by its answer

pub command_done : (w : World) (candidate : Candidate) (words : Words) (buf : List ℕ) → verdict w candidate words buf ≡ success
    → command_of w candidate words buf ≡ outcome success 0 (afterwards (before w candidate (asked w words)) (asked w words)) (sent_of (before w candidate (asked w words)) (asked w words) buf)
unfolding command_of answered
command_done w candidate words buf e = rw (eq-eqb _ success e)

pub command_refused : (w : World) (candidate : Candidate) (words : Words) (buf : List ℕ) → (verdict w candidate words buf ≡ success → ⊥)
    → command_of w candidate words buf ≡ outcome (verdict w candidate words buf) (class_for (verdict w candidate words buf) (asked w words).page) w buf
unfolding command_of answered
command_refused w candidate words buf n = rw (ne_eqb _ success n)

pub command_answer_lem : (w : World) (candidate : Candidate) (words : Words) (buf : List ℕ) → (command_of w candidate words buf).answer ≡ verdict w candidate words buf
command_answer_lem w candidate words buf =
    same_or_not (verdict w candidate words buf) success
    (λ e. rw (command_done w candidate words buf e) (sym e))
    (λ n. rw (command_refused w candidate words buf n))

-- a refused command changes no store, no record and no buffer
pub refusal_changes_nothing : (w : World) (candidate : Candidate) (words : Words) (buf : List ℕ) → ((command_of w candidate words buf).answer ≡ success → ⊥)
    → ((command_of w candidate words buf).world ≡ w) × ((command_of w candidate words buf).buf ≡ buf)
refusal_changes_nothing w candidate words buf n =
    let r = command_refused w candidate words buf (λ e. n (command_answer_lem w candidate words buf ∙ e)) in
    (ap (λ (o : Outcome). o.world) r, ap (λ (o : Outcome). o.buf) r)

-- ---- nothing changes but by a create or an acknowledgement

done_frame : (P : World → Type 0) (w : World) (candidate : Candidate) (c : Command) → (c.create ≡ true → c.page ≡ host_page)
    → P w → (c.create ≡ true → P (host_captured w candidate c.mcda))
    → (c.page ≡ controller_page → c.rae ≡ false → P (cleared w))
    → P (afterwards (before w candidate c) c)
unfolding afterwards
done_frame P w candidate c host same made gone =
    by_test c.create
    (λ t. subst P (sym (captured w candidate c t) ∙ sym (host_stays (before w candidate c) c (host t))) (made t))
    (λ t.
    subst (λ (v : World). P (afterwards v c)) (sym (no_capture w candidate c t))
    (pick_cases P (acknowledges c)
    (λ e. gone (eqb-true _ _ (and_left (eqb c.page controller_page) (not c.rae) e)) (not-true c.rae (and_right (eqb c.page controller_page) (not c.rae) e)))
    (λ e. same)))

pub command_frame : (P : World → Type 0) (w : World) (candidate : Candidate) (words : Words) (buf : List ℕ)
    → P w
    → (Accepted w.own (asked w words) candidate.last (lent_by w candidate buf) → (asked w words).create ≡ true → P (host_captured w candidate (asked w words).mcda))
    → (Accepted w.own (asked w words) candidate.last (lent_by w candidate buf) → (asked w words).page ≡ controller_page → (asked w words).rae ≡ false → P (cleared w))
    → P (command_of w candidate words buf).world
command_frame P w candidate words buf same made gone =
    same_or_not (verdict w candidate words buf) success
    (λ e. rw (command_done w candidate words buf e)
    (let g = accepted w.own (asked w words) candidate.last (lent_by w candidate buf) e in
    done_frame P w candidate (asked w words) (create_host w.own.caps.extended words (asked w words) refl) same (made g) (gone g)))
    (λ n. rw (command_refused w candidate words buf n) same)

-- ---- an agreeing world stays one

-- what a capture stores keeps the rule and lies in its store
stored_fits : (w : World) (candidate : Candidate) (mcda : ℕ) (store : List ℕ)
    → Whole (last_of (top_of w.own.caps mcda) candidate.last) candidate.last (length candidate.bytes) (length candidate.reason) (length store)
    → StoreFits w.own.caps.da4s (trim_of w.own.caps mcda candidate.last) (length store)
stored_fits w candidate mcda store h =
    let g = trim_greatest w.own.caps mcda candidate.last h.order in
    let r = h.room in
    record { rule = trim_keeps_rule w.own.caps mcda candidate.last h.order h.limit; room = omega arith }

pub create_agrees : (w : World) (candidate : Candidate) (mcda : ℕ) → Agrees w
    → Whole (last_of (top_of w.own.caps mcda) candidate.last) candidate.last (length candidate.bytes) (length candidate.reason) (length w.host)
    → Agrees (host_captured w candidate mcda)
unfolding host_captured
create_agrees w candidate mcda g h =
    let k = agreed w.own (length w.host) (length w.controller) g in
    agrees_where _ _ _
    (record {
      host = rw (put_length w.host 0 (take (block * last_of (top_of w.own.caps mcda) candidate.last) candidate.bytes)) (stored_fits w candidate mcda w.host h);
      controller = k.controller;
      identity = k.identity;
    })

-- no last blocks keep the rule
no_rule : (da4s : Bool) → LastRule da4s (zeros 4)
no_rule da4s = record {
  one_two = omega arith;
  two_three = omega arith;
  three_most = omega arith;
  three_four = λ e. omega arith;
  four_most = omega arith;
  four_none = λ e. refl;
  four_some = λ e. refl;
}

pub clear_agrees : (w : World) → Agrees w → Agrees (cleared w)
unfolding greatest_of
clear_agrees w g =
    let k = agreed w.own (length w.host) (length w.controller) g in
    agrees_where _ _ _
    (record {
      host = k.host;
      controller = record {
        fits = record { rule = no_rule w.own.caps.da4s; room = omega arith };
        flag = omega arith;
        empty = λ e. refl;
        some = λ e. absurd (omega arith);
      };
      identity = k.identity;
    })

pub capture_agrees : (w : World) (candidate : Candidate) → Agrees w → Captures w.own candidate.last (lent_by w candidate []) → Agrees (controller_captured w candidate)
unfolding controller_captured
capture_agrees w candidate g h =
    let k = agreed w.own (length w.host) (length w.controller) g in
    agrees_where _ _ _
    (record {
      host = k.host;
      controller = record {
        fits = rw (put_length w.controller 0 (take (block * last_of (top_of w.own.caps 0) candidate.last) candidate.bytes)) (stored_fits w candidate 0 w.controller h.candidate);
        flag = omega arith;
        empty = λ e. absurd (omega arith);
        some = λ e. rw (trim_three w.own.caps candidate.last) h.some;
      };
      identity = k.identity;
    })

-- agreement is kept by every command
pub command_agrees : (w : World) (candidate : Candidate) (words : Words) (buf : List ℕ) → Agrees w → Agrees (command_of w candidate words buf).world
command_agrees w candidate words buf g =
    command_frame Agrees w candidate words buf g
    (λ a t. create_agrees w candidate (asked w words).mcda g (a.candidate t))
    (λ a p r. clear_agrees w g)

-- and by every capture
pub captured_agrees : (w : World) (candidate : Candidate) → Agrees w → Agrees (capture_of w candidate).world
unfolding capture_of capture_answered
captured_agrees w candidate g =
    by_test (eqb (capture_answer w.own candidate.last (lent_by w candidate [])) success)
    (λ e. rw e (capture_agrees w candidate g (captures w.own candidate.last (lent_by w candidate []) (eqb-true _ _ e))))
    (λ e. rw e g)

-- ---- and so does what the types say of a record

trim_four : (w : World) (mcda : ℕ) (a : List ℕ) → length (trim_of w.own.caps mcda a) ≡ 4
unfolding trim_of trimmed_to
trim_four w mcda a = refl

pub create_typed : (w : World) (candidate : Candidate) (mcda : ℕ) → Agrees w → Typed w.own
    → Whole (last_of (top_of w.own.caps mcda) candidate.last) candidate.last (length candidate.bytes) (length candidate.reason) (length w.host)
    → Typed (host_captured w candidate mcda).own
unfolding host_captured
create_typed w candidate mcda g t h =
    agreed_typed _ _ _ (create_agrees w candidate mcda g h)
    (record {
      host_four = trim_four w mcda candidate.last;
      host_reason = h.long;
      controller_four = t.sized.controller_four;
      controller_reason = t.sized.controller_reason;
    })
    (omega arith)
    t.ranged.controller_generation

pub clear_typed : (w : World) → Agrees w → Typed w.own → Typed (cleared_of w.own)
clear_typed w g t =
    agreed_typed _ _ _ (clear_agrees w g)
    (record {
      host_four = t.sized.host_four;
      host_reason = t.sized.host_reason;
      controller_four = refl;
      controller_reason = t.sized.controller_reason;
    })
    t.ranged.host_generation
    t.ranged.controller_generation

pub capture_typed : (w : World) (candidate : Candidate) → Agrees w → Typed w.own → Captures w.own candidate.last (lent_by w candidate [])
    → Typed (controller_captured w candidate).own
unfolding controller_captured
capture_typed w candidate g t h =
    agreed_typed _ _ _ (capture_agrees w candidate g h)
    (record {
      host_four = t.sized.host_four;
      host_reason = t.sized.host_reason;
      controller_four = trim_four w 0 candidate.last;
      controller_reason = h.candidate.long;
    })
    t.ranged.host_generation
    (omega arith)

-- by every command, whatever it is lent
pub command_typed : (w : World) (candidate : Candidate) (words : Words) (buf : List ℕ) → Typed w.own → Typed (command_of w candidate words buf).world.own
command_typed w candidate words buf t =
    command_frame (λ (v : World). Typed v.own) w candidate words buf t
    (λ a c. create_typed w candidate (asked w words).mcda a.agrees t (a.candidate c))
    (λ a p r. clear_typed w a.agrees t)

-- and by every capture
pub captured_typed : (w : World) (candidate : Candidate) → Typed w.own → Typed (capture_of w candidate).world.own
unfolding capture_of capture_answered
captured_typed w candidate t =
    pick_cases (λ (o : Outcome). Typed o.world.own) (eqb (capture_answer w.own candidate.last (lent_by w candidate [])) success)
    (λ e. let c = captures w.own candidate.last (lent_by w candidate []) (eqb-true _ _ e) in capture_typed w candidate c.agrees t c)
    (λ e. t)

-- a refused capture changes nothing
pub capture_refusal_changes_nothing : (w : World) (candidate : Candidate) → ((capture_of w candidate).answer ≡ success → ⊥) → (capture_of w candidate).world ≡ w
unfolding capture_of capture_answered
capture_refusal_changes_nothing w candidate =
    by_test (eqb (capture_answer w.own candidate.last (lent_by w candidate [])) success)
    (λ e. rw e (λ n. absurd (n refl)))
    (λ e. rw e (λ n. refl))

-- ---- a drop

-- by its answer, 0 of a world that agrees
pub drop_done : (w : World) → Agrees w → drop_of w ≡ outcome success 0 (host_dropped w) []
unfolding drop_of
drop_done w g = rw g

-- a refused drop changes nothing
pub drop_refusal_changes_nothing : (w : World) → ((drop_of w).answer ≡ success → ⊥) → (drop_of w).world ≡ w
unfolding drop_of
drop_refusal_changes_nothing w =
    by_test (agrees_with w.own (length w.host) (length w.controller))
    (λ e. rw e (λ n. absurd (n refl)))
    (λ e. rw e (λ n. refl))

-- any drop leaves both stores, all of 08h, the capabilities and the identity, and the generation of 07h
pub drop_frame : (w : World)
    → ((drop_of w).world.host ≡ w.host) × ((drop_of w).world.controller ≡ w.controller) × ((drop_of w).world.own.controller ≡ w.own.controller)
    × ((drop_of w).world.own.caps ≡ w.own.caps) × ((drop_of w).world.own.identity ≡ w.own.identity)
    × ((drop_of w).world.own.host.generation ≡ w.own.host.generation)
unfolding drop_of
drop_frame w =
    by_test (agrees_with w.own (length w.host) (length w.controller))
    (λ e. rw e (refl, refl, refl, refl, refl, refl))
    (λ e. rw e (refl, refl, refl, refl, refl, refl))

pub drop_agrees : (w : World) → Agrees w → Agrees (host_dropped w)
unfolding greatest_of
drop_agrees w g =
    let k = agreed w.own (length w.host) (length w.controller) g in
    agrees_where _ _ _
    (record {
      host = record { rule = no_rule w.own.caps.da4s; room = omega arith };
      controller = k.controller;
      identity = k.identity;
    })

pub drop_typed : (w : World) → Agrees w → Typed w.own → Typed (dropped_of w.own)
drop_typed w g t =
    agreed_typed _ _ _ (drop_agrees w g)
    (record {
      host_four = refl;
      host_reason = refl;
      controller_four = t.sized.controller_four;
      controller_reason = t.sized.controller_reason;
    })
    t.ranged.host_generation
    t.ranged.controller_generation

-- agreement and what the types say are kept by every drop
pub dropped_agrees : (w : World) → Agrees w → Agrees (drop_of w).world
dropped_agrees w g = rw (drop_done w g) (drop_agrees w g)

pub dropped_typed : (w : World) → Typed w.own → Typed (drop_of w).world.own
unfolding drop_of
dropped_typed w t =
    pick_cases (λ (o : Outcome). Typed o.world.own) (agrees_with w.own (length w.host) (length w.controller)) (λ e. drop_typed w e t) (λ e. t)
