-- What may happen to the controller between two commands of a collection: a capture moves its page's generation on by one, a drop empties 07h, and
-- where there is neither a page that has data still is as it was.
-- Assumes nothing.
use Rattle.std.specs.Prelude.{ℕ, ◌+◌, ◌%◌, ◌≤◌, ◌<◌, ◌≡◌, List, [], Bool, not, ◌&&◌, length, take}
use Rattle.std.proofs.Math.Path.{refl, sym, subst}
use Rattle.std.proofs.Common.{◌∙◌, arith, eqb-true, ne_eqb}
use Rattle.std.proofs.Math.Bool.{true, false}
use Rattle.std.proofs.Math.Dec.{eqb}
use Rattle.choices.specs.Choice.{pick_cases, one}
use Rattle.choices.specs.Tests.{by_test, clash, and_left, same_or_not}
use Rattle.copies.specs.Parts.{zeros}
use Rattle.answers.specs.Answers.{success}
use Rattle.pages.specs.declared.Caps.{Caps}
use Rattle.pages.specs.Pages.{host_page, controller_page, telemetry_page}
use Rattle.pages.specs.Laws.{by_page}
use Rattle.words.specs.declared.Command.{Command}
use Rattle.words.specs.declared.Words.{Words}
use Rattle.records.specs.Records.{agrees_with, host_fields, controller_fields, fields_for}
use Rattle.verdicts.specs.Verdicts.{capture_answer}
use Rattle.plans.specs.declared.Plan.{Plan}
use Rattle.plans.specs.Plans.{setup_answer, area_bytes}
use Rattle.completions.specs.Completions.{shows_none}
use Rattle.controller.specs.Controller.{World, world, Candidate, Outcome, store_for, host_captured, controller_captured, acknowledges, cleared, before, afterwards, capture_of, capture_answered, lent_by, host_dropped, drop_of}
use Rattle.controller.proofs.Steps.{create_host, host_stays, captured, no_capture}
use Rattle.controller.specs.Asked.{asked, verdict}
use Rattle.controller.proofs.Laws.{command_done, command_refused, command_agrees, command_typed, captured_agrees, captured_typed, dropped_agrees, dropped_typed}
use Rattle.demand3.specs.Bench.{Event, Sent, Taken, Dropped, act_of, captures_of, drops_of}
use Rattle.demand3.specs.Shown.{generation_for, shows_for, wanted_area, Good, plan_page, area_stored}

-- ---- by cases, each with the number of captures, or of drops, it makes on a page

-- what is done counts where it is this page's, and what is refused nowhere
counted : (s : Bool) → one s ≡ one (s && true)
counted true = refl
counted false = refl

uncounted : (s : Bool) → 0 ≡ one (s && false)
uncounted true = refl
uncounted false = refl

module _ (Q : World → ℕ → Type 0) (page : ℕ) (w : World) where
  -- a command that succeeds
  done_cases : (candidate : Candidate) (c : Command) → (c.create ≡ true → c.page ≡ host_page) → Q w 0
      → ((mcda : ℕ) → c.create ≡ true → Q (host_captured w candidate mcda) (one (eqb page host_page))) → (c.page ≡ controller_page → Q (cleared w) 0)
      → Q (afterwards (before w candidate c) c) (one (eqb page host_page && c.create && true))
  unfolding afterwards
  done_cases candidate c host same made gone =
      by_test c.create
      (λ t.
      subst (λ (v : World). Q v (one (eqb page host_page && c.create && true))) (sym (captured w candidate c t) ∙ sym (host_stays (before w candidate c) c (host t)))
      (subst (λ (n : ℕ). Q (host_captured w candidate c.mcda) n) (some (eqb page host_page) c.create t) (made c.mcda t)))
      (λ t.
      subst (λ (v : World). Q (afterwards v c) (one (eqb page host_page && c.create && true))) (sym (no_capture w candidate c t))
      (subst (λ (n : ℕ). Q (afterwards w c) n) (none (eqb page host_page) c.create t)
      (pick_cases (λ (v : World). Q v 0) (acknowledges c)
      (λ e. gone (eqb-true _ _ (and_left (eqb c.page controller_page) (not c.rae) e)))
      (λ e. same))))
    where
      some : (s t : Bool) → t ≡ true → one s ≡ one (s && t && true)
      some true true e = refl
      some true false e = clash e refl
      some false t e = refl

      none : (s t : Bool) → t ≡ false → 0 ≡ one (s && t && true)
      none true true e = clash {t = true} refl e
      none true false e = refl
      none false t e = refl

  -- a command: it is refused, it reads, it captures on 07h, or it clears 08h
  sent_cases : (words : Words) (candidate : Candidate) (buf : List ℕ) → Q w 0 → ((mcda : ℕ) → Q (host_captured w candidate mcda) (one (eqb page host_page))) → Q (cleared w) 0
      → Q (act_of (Sent words candidate buf) w) (captures_of page (Sent words candidate buf) w)
  unfolding act_of captures_of
  sent_cases words candidate buf same made gone =
      same_or_not (verdict w candidate words buf) success
      (λ e. subst R (sym (command_done w candidate words buf e))
      (done_cases candidate (asked w words) (create_host w.own.caps.extended words (asked w words) refl) same (λ m t. made m) (λ p. gone)))
      (λ n. subst R (sym (command_refused w candidate words buf n)) (refused (eqb page host_page) (asked w words).create (eqb (verdict w candidate words buf) success) (ne_eqb _ success n)))
    where
      R : Outcome → Type 0
      R o = Q o.world (one (eqb page host_page && (asked w words).create && eqb o.answer success))

      refused : (s t u : Bool) → u ≡ false → Q w (one (s && t && u))
      refused true true u e = rw e same
      refused true false u e = same
      refused false t u e = same

  -- a capture on 08h: it is refused, or taken
  taken_cases : (candidate : Candidate) → Q w 0 → Q (controller_captured w candidate) (one (eqb page controller_page))
      → Q (act_of (Taken candidate) w) (captures_of page (Taken candidate) w)
  unfolding act_of captures_of capture_of capture_answered
  taken_cases candidate same made =
      pick_cases R (eqb (capture_answer w.own candidate.last (lent_by w candidate [])) success)
      (λ e. subst (λ (n : ℕ). Q (controller_captured w candidate) n) (counted (eqb page controller_page)) made)
      (λ e. rw e (subst (λ (n : ℕ). Q w n) (uncounted (eqb page controller_page)) same))
    where
      R : Outcome → Type 0
      R o = Q o.world (one (eqb page controller_page && eqb o.answer success))

-- a drop: it is refused, or done, and then it counts on 07h alone
dropped_cases : (Q : World → ℕ → Type 0) (page : ℕ) (w : World) → Q w 0 → Q (host_dropped w) (one (eqb page host_page)) → Q (act_of Dropped w) (drops_of page Dropped w)
unfolding act_of drops_of drop_of
dropped_cases Q page w same made =
    pick_cases (λ (o : Outcome). Q o.world (one (eqb page host_page && eqb o.answer success))) (agrees_with w.own (length w.host) (length w.controller))
    (λ e. subst (λ (n : ℕ). Q (host_dropped w) n) (counted (eqb page host_page)) made)
    (λ e. subst (λ (n : ℕ). Q w n) (uncounted (eqb page host_page)) same)

-- ---- the laws

act_caps : (caps : Caps) (e : Event) (w : World) → w.own.caps ≡ caps → (act_of e w).own.caps ≡ caps
unfolding host_captured controller_captured
act_caps caps (Sent words candidate buf) w c = sent_cases (λ (v : World) (n : ℕ). v.own.caps ≡ caps) 0 w words candidate buf c (λ m. c) c
act_caps caps (Taken candidate) w c = taken_cases (λ (v : World) (n : ℕ). v.own.caps ≡ caps) 0 w candidate c c
act_caps caps Dropped w c = dropped_cases (λ (v : World) (n : ℕ). v.own.caps ≡ caps) 0 w c c

pub act_good : (p : Plan) (e : Event) (w : World) → Good p w → Good p (act_of e w)
unfolding act_of
act_good p (Sent words candidate buf) w g = record {
  agrees = command_agrees w candidate words buf g.agrees;
  typed = command_typed w candidate words buf g.typed;
  caps = act_caps p.caps (Sent words candidate buf) w g.caps;
}
act_good p (Taken candidate) w g = record {
  agrees = captured_agrees w candidate g.agrees;
  typed = captured_typed w candidate g.typed;
  caps = act_caps p.caps (Taken candidate) w g.caps;
}
act_good p Dropped w g = record {
  agrees = dropped_agrees w g.agrees;
  typed = dropped_typed w g.typed;
  caps = act_caps p.caps Dropped w g.caps;
}

-- a capture moves the generation on
abbrev Moved : ℕ → World → World → ℕ → Type 0
Moved page w v n = generation_for page v ≡ (generation_for page w + n) % 256

pub act_moves : (page : ℕ) → telemetry_page page ≡ true → (e : Event) (w : World) → generation_for page w < 256
    → generation_for page (act_of e w) ≡ (generation_for page w + captures_of page e w) % 256
unfolding host_captured controller_captured captures_of
act_moves page t e w = by_page (λ (n : ℕ). generation_for n w < 256 → Moved n w (act_of e w) (captures_of n e w)) page t (host e) (controller e)
  where
    host : (e : Event) → generation_for host_page w < 256 → Moved host_page w (act_of e w) (captures_of host_page e w)
    host (Sent words candidate buf) l = sent_cases (Moved host_page w) host_page w words candidate buf (omega arith) (λ m. refl) (omega arith)
    host (Taken candidate) l = taken_cases (Moved host_page w) host_page w candidate (omega arith) (omega arith)
    host Dropped l = dropped_cases (λ (v : World) (n : ℕ). Moved host_page w v 0) host_page w (omega arith) (omega arith)

    controller : (e : Event) → generation_for controller_page w < 256 → Moved controller_page w (act_of e w) (captures_of controller_page e w)
    controller (Sent words candidate buf) l = sent_cases (Moved controller_page w) controller_page w words candidate buf (omega arith) (λ m. omega arith) (omega arith)
    controller (Taken candidate) l = taken_cases (Moved controller_page w) controller_page w candidate (omega arith) refl
    controller Dropped l = dropped_cases (λ (v : World) (n : ℕ). Moved controller_page w v 0) controller_page w (omega arith) (omega arith)

-- a drop empties 07h
pub act_empties : (page : ℕ) → telemetry_page page ≡ true → (e : Event) (w : World) → 1 ≤ drops_of page e w → (fields_for page (act_of e w).own).last ≡ zeros 4
unfolding drops_of fields_for host_fields controller_fields
act_empties page t (Sent words candidate buf) w some = absurd (omega arith)
act_empties page t (Taken candidate) w some = absurd (omega arith)
act_empties page t Dropped w some =
    by_page (λ (n : ℕ). 1 ≤ drops_of n Dropped w → (fields_for n (act_of Dropped w).own).last ≡ zeros 4) page t
    (dropped_cases (λ (v : World) (n : ℕ). 1 ≤ n → (fields_for host_page v.own).last ≡ zeros 4) host_page w (λ l. absurd (omega arith)) (λ l. refl))
    (λ l. absurd (omega arith))
    some

-- with neither a capture nor a drop a page that has data is as it was
abbrev lives : ℕ → World → Bool
lives page w = eqb page controller_page && eqb (fields_for page w.own).tcda 0

abbrev Still : ℕ → World → World → ℕ → Type 0
Still page w v n = n ≡ 0 → lives page v ≡ false
    → (lives page w ≡ false) × ((fields_for page v.own).last ≡ (fields_for page w.own).last) × (store_for page v ≡ store_for page w)

act_still : (page : ℕ) → telemetry_page page ≡ true → (e : Event) (w : World) → drops_of page e w ≡ 0 → Still page w (act_of e w) (captures_of page e w)
unfolding host_captured controller_captured captures_of fields_for host_fields controller_fields
act_still page t e w = by_page (λ (n : ℕ). drops_of n e w ≡ 0 → Still n w (act_of e w) (captures_of n e w)) page t (host e) (controller e)
  where
    host : (e : Event) → drops_of host_page e w ≡ 0 → Still host_page w (act_of e w) (captures_of host_page e w)
    host (Sent words candidate buf) d =
        sent_cases (Still host_page w) host_page w words candidate buf (λ z l. (refl, refl, refl)) (λ m z. absurd (omega arith)) (λ z l. (refl, refl, refl))
    host (Taken candidate) d = taken_cases (Still host_page w) host_page w candidate (λ z l. (refl, refl, refl)) (λ z l. (refl, refl, refl))
    host Dropped d =
        dropped_cases (λ (v : World) (n : ℕ). n ≡ 0 → Still host_page w v 0) host_page w (λ q z l. (refl, refl, refl)) (λ q. absurd (omega arith)) d

    controller : (e : Event) → drops_of controller_page e w ≡ 0 → Still controller_page w (act_of e w) (captures_of controller_page e w)
    controller (Sent words candidate buf) d =
        sent_cases (Still controller_page w) controller_page w words candidate buf (λ z l. (l, refl, refl)) (λ m z l. (l, refl, refl)) (λ z l. clash {t = true} refl l)
    controller (Taken candidate) d = taken_cases (Still controller_page w) controller_page w candidate (λ z l. (l, refl, refl)) (λ z. absurd (omega arith))
    controller Dropped d = dropped_cases (λ (v : World) (n : ℕ). Still controller_page w v 0) controller_page w (λ z l. (l, refl, refl)) (λ z l. (l, refl, refl))

pub act_quiet : (p : Plan) → setup_answer p ≡ success → (e : Event) (w : World) → Good p w → captures_of p.page e w ≡ 0 → drops_of p.page e w ≡ 0
    → shows_none p (shows_for p.page (act_of e w)) ≡ false
    → (shows_none p (shows_for p.page w) ≡ false) × ((shows_for p.page (act_of e w)).last ≡ (shows_for p.page w).last) × (wanted_area p (act_of e w) ≡ wanted_area p w)
unfolding shows_for
act_quiet p s e w g none whole live =
    let k = act_still p.page (plan_page p s) e w whole none live in
    let v : World = act_of e w in
    let same : take (area_bytes p (fields_for p.page v.own).last) (store_for p.page v) ≡ take (area_bytes p (fields_for p.page w.own).last) (store_for p.page w) =
    rw (k.1, k.2) in
    (k.0, k.1, area_stored p v (act_good p e w g) s ∙ same ∙ sym (area_stored p w g s))
