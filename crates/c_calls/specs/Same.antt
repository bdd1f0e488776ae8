-- The program's loop on bytes is the run of demand 3: what its bytes say is where that run stands, turn after turn.
-- Assumes nothing.
use Rattle.std.specs.Prelude.{ℕ, zero, suc, ◌+◌, ◌≡◌, Bool, true, false, ◌&&◌, ◌||◌, length, get_or, eqb}
use Rattle.std.proofs.Math.Path.{refl, ap, subst}
use Rattle.std.proofs.Common.{sym, ◌∙◌, arith, ne_eqb}
use mathlib.Core.List.{List, [], ◌∷◌}
use Rattle.std.proofs.Math.ListN.{length-append, take}
use Rattle.choices.specs.Choice.{pick, pick_cases, one}
use Rattle.answers.specs.Answers.{success}
use Rattle.pages.specs.Pages.{host_page, controller_page}
use Rattle.words.specs.declared.Words.{Words}
use Rattle.words.specs.Words.{read_of}
use Rattle.records.specs.declared.Record.{Record}
use Rattle.plans.specs.declared.Plan.{Plan}
use Rattle.phases.specs.Phases.{judged_by}
use Rattle.plans.specs.Plans.{setup_answer}
use Rattle.collection.specs.declared.Collection.{Collection}
use Rattle.collection.specs.Told.{Next}
use Rattle.collection.specs.declared.Next.TheVariants.{Send, End as Ends, Refuse}
use Rattle.collection.specs.Told.{Stepped}
use Rattle.collection.specs.Collection.{setup_of, step_of, copy_after}
use Rattle.collection.specs.Steps.{setup_taken}
use Rattle.verdicts.specs.Verdicts.{capture_answer}
use Rattle.controller.specs.Controller.{World, world, Candidate, Outcome, host_captured, controller_captured, lent_by, command_of, capture_answered, capture_of, drop_of}
use Rattle.controller.specs.Asked.{asked}
use Rattle.controller.proofs.Laws.{command_frame, drop_frame}
use Rattle.runs.specs.Run.{given}
use Rattle.runs.specs.Counted.{step_counts}
use Rattle.sources.specs.Source.{Source, ours, Done, Turn, Stand, Counters, changed, heard, for_lent, fine, data_of, happens as runHappens, happen as runHappen, hears, turn_by, run, begun, collected}
use Rattle.demand3.specs.Bench.{Event, Sent, Taken, Dropped, Loan, act_of, captures_of, drops_of, own_of, controller_source}
use Rattle.demand3.specs.Shown.{Good}
use Rattle.demand3.specs.Events.{act_good}
use Rattle.demand3.specs.Demand3.{final}
use Rattle.state_layout.specs.Layout.{phase_of, state_at, state_intact}
use Rattle.state_layout.specs.Back.{Typed, state_intact_lem, state_back}
use Rattle.record_layout.specs.Layout.{record_at, record_intact}
use Rattle.next_layout.specs.Layout.{kind_of, next_bytes}
use Rattle.host_boundary.specs.Boundary.{step_at}
use Rattle.host_boundary.specs.Laws.{step_intact}
use Rattle.controller_boundary.specs.Boundary.{CommandAnswer, command_at, capture_at, drop_at}
use Rattle.controller_boundary.proofs.Laws.{command_intact, capture_intact, drop_intact}
use Rattle.c_calls.specs.Calls.{Controller, command, capture, drop, commanded, after, captures_by, drops_by, Program, kind_in, words_in, judges_in, bytes_in, data_in, steps, own, happens, happen, turn, turns, begins, program}
use Rattle.c_calls.specs.State.{step_typed, taken_typed, chained, step_copy, step_follows}
use Rattle.c_calls.specs.Record.{command_chained, capture_chained, drop_chained}
use Rattle.c_calls.specs.Next.{Small, words_said, step_small, setup_small, words_back, kind_back}

-- ---- the controller

-- the controller that the bytes say
abbrev pub world_at : Controller → World
world_at b = world (record_at b.own) b.host b.controller

-- bytes of a record that is intact, and that says a controller which the plan was set up for
pub record Fit (p : Plan) (b : Controller) : Type 0 where
  pub intact : record_intact b.own ≡ true
  pub good : Good p (world_at b)

world_is : {r : Record} {h k : List ℕ} (v : World) → r ≡ v.own → h ≡ v.host → k ≡ v.controller → world r h k ≡ v
world_is v r h k = rw (r, h, k)

module _ (b : Controller) (i : record_intact b.own ≡ true) (candidate : Candidate) where
  module _ (words : Words) (buf : List ℕ) where
    abbrev x : CommandAnswer
    x = command b candidate words buf

    abbrev o : Outcome
    o = command_of (world_at b) candidate words buf

    -- an intact record's command is answered as its definition says
    pub command_answers : x.answer ≡ o.answer
    unfolding command_at
    command_answers = rw i

    command_fills : x.buf ≡ o.buf
    unfolding command_at
    command_fills = rw i

    command_stores : x.host ≡ o.world.host
    unfolding command_at
    command_stores = rw i

    -- a command leaves the controller store alone
    command_spares : b.controller ≡ o.world.controller
    unfolding host_captured
    command_spares = command_frame (λ (v : World). b.controller ≡ v.controller) (world_at b) candidate words buf refl (λ a c. refl) (λ a p r. refl)

  abbrev y : Outcome
  y = capture_of (world_at b) candidate

  capture_answers : (capture b candidate).answer ≡ y.answer
  unfolding capture_at
  capture_answers = rw i

  capture_stores : (capture b candidate).controller ≡ y.world.controller
  unfolding capture_at
  capture_stores = rw i

  -- a capture leaves the host store alone
  capture_spares : b.host ≡ y.world.host
  unfolding capture_of capture_answered controller_captured
  capture_spares =
      pick_cases (λ (z : Outcome). b.host ≡ z.world.host) (eqb (capture_answer (world_at b).own candidate.last (lent_by (world_at b) candidate [])) success)
      (λ e. refl) (λ e. refl)

drop_answers : (b : Controller) → record_intact b.own ≡ true → (drop b).answer ≡ (drop_of (world_at b)).answer
unfolding drop_at
drop_answers b i = rw i

after_intact : (e : Event) (b : Controller) → record_intact b.own ≡ true → record_intact (after e b).own ≡ true
unfolding after
after_intact (Sent words candidate buf) b i = command_intact b.own b.host b.controller candidate words buf i
after_intact (Taken candidate) b i = capture_intact b.own b.host b.controller candidate i
after_intact Dropped b i = drop_intact b.own b.host b.controller i

-- A command, a capture or a drop on a controller's bytes leaves the bytes of the controller that it leaves.
pub after_world : (p : Plan) (e : Event) (b : Controller) → Fit p b → world_at (after e b) ≡ act_of e (world_at b)
unfolding after act_of
after_world p (Sent words candidate buf) b f =
    world_is (command_of (world_at b) candidate words buf).world
    (command_chained b.own b.host b.controller f.good.typed candidate words buf f.intact)
    (command_stores b f.intact candidate words buf)
    (command_spares b f.intact candidate words buf)
after_world p (Taken candidate) b f =
    world_is (capture_of (world_at b) candidate).world
    (capture_chained b.own b.host b.controller f.good.typed candidate f.intact)
    (capture_spares b f.intact candidate)
    (capture_stores b f.intact candidate)
after_world p Dropped b f =
    let frame = drop_frame (world_at b) in
    world_is (drop_of (world_at b)).world (drop_chained b.own b.host b.controller f.good.typed f.intact) (sym frame.0) (sym frame.1)

after_fit : (p : Plan) (e : Event) (b : Controller) → Fit p b → Fit p (after e b)
after_fit p e b f = record {
  intact = after_intact e b f.intact;
  good = subst (Good p) (sym (after_world p e b f)) (act_good p e (world_at b) f.good);
}

-- and is a capture, or a drop, by its answer just where it is one
captures_same : (page : ℕ) (e : Event) (b : Controller) → record_intact b.own ≡ true → captures_by page e b ≡ captures_of page e (world_at b)
unfolding captures_by captures_of
captures_same page (Sent words candidate buf) b i =
    ap (λ (n : ℕ). one (eqb page host_page && (read_of true words).create && eqb n success)) (command_answers b i candidate words buf)
captures_same page (Taken candidate) b i = ap (λ (n : ℕ). one (eqb page controller_page && eqb n success)) (capture_answers b i candidate)
captures_same page Dropped b i = refl

drops_same : (page : ℕ) (e : Event) (b : Controller) → record_intact b.own ≡ true → drops_by page e b ≡ drops_of page e (world_at b)
unfolding drops_by drops_of
drops_same page (Sent words candidate buf) b i = refl
drops_same page (Taken candidate) b i = refl
drops_same page Dropped b i = ap (λ (n : ℕ). one (eqb page host_page && eqb n success)) (drop_answers b i)

-- ---- small equations

-- the phase's byte tells a header that is judged
judged_phase : (n at : ℕ) → eqb n 0 || eqb n 2 || eqb n 3 ≡ judged_by (phase_of n at)
unfolding phase_of
judged_phase zero at = refl
judged_phase (suc zero) at = refl
judged_phase (suc (suc zero)) at = refl
judged_phase (suc (suc (suc zero))) at = refl
judged_phase (suc (suc (suc (suc zero)))) at = refl
judged_phase (suc (suc (suc (suc (suc n))))) at =
    let k = suc (suc (suc (suc (suc n)))) in
    rw (ne_eqb k 0 (λ e. omega arith), ne_eqb k 1 (λ e. omega arith), ne_eqb k 2 (λ e. omega arith), ne_eqb k 3 (λ e. omega arith), ne_eqb k 4 (λ e. omega arith))

judges : (b : List ℕ) → judges_in b ≡ judged_by (state_at b).phase
unfolding judges_in state_at
judges b = judged_phase (get_or b 0 0) _

step_is : {x y : Collection} {t u : Bool} {d e m n : List ℕ} → x ≡ y → t ≡ u → d ≡ e → m ≡ n → step_of x t d (length m) ≡ step_of y u e (length n)
step_is p q r s = rw (p, q, r, s)

copy_is : {x y : Collection} {t u : Bool} {d e m n : List ℕ} → x ≡ y → t ≡ u → d ≡ e → m ≡ n → copy_after x t d m ≡ copy_after y u e n
copy_is p q r s = rw (p, q, r, s)

changed_is : {i j m n : ℕ} {a b : Counters} → i ≡ j → m ≡ n → a ≡ b → changed i m a ≡ changed j n b
changed_is d e f = rw (d, e, f)

heard_is : {j k : Bool} {m n : ℕ} {a b : Counters} → j ≡ k → m ≡ n → a ≡ b → heard j (for_lent m) a ≡ heard k (for_lent n) b
heard_is e f g = rw (e, f, g)

checked_is : (j : Bool) (a b : Controller) {k : Bool} {v w : World} → j ≡ k → world_at a ≡ v → world_at b ≡ w → world_at (pick j a b) ≡ pick k v w
checked_is true a b e f g = rw (← e) f
checked_is false a b e f g = rw (← e) g

headers_are : {j k : Bool} {d f : List ℕ} {hs gs : List (List ℕ)} → j ≡ k → d ≡ f → hs ≡ gs → pick j (d ∷ hs) hs ≡ pick k (f ∷ gs) gs
headers_are e q r = rw (e, q, r)

-- ---- where the program stands

module _ (p : Plan) (e : setup_answer p ≡ success) where
  abbrev D : Source
  D = controller_source p.page

  -- the run of demand 3: its setup, its completions, its turns
  abbrev run_begins : List ℕ → World → Stand D
  run_begins copy w = begun ours D p copy w

  abbrev run_hears : Stand D → Done World → Stand D
  run_hears s o = hears ours D s o

  abbrev run_turn : Next → Turn D → Stand D → Stand D
  run_turn n t s = turn_by ours D n t s

  abbrev run_turns : List (Turn D) → Stand D → Stand D
  run_turns ts s = run ours D ts s

  -- the bytes that a program holds say where a run stands
  pub record Same (c : Program) (s : Stand D) : Type 0 where
    pub fit : Fit p c.controller
    pub source : world_at c.controller ≡ s.source
    pub intact : state_intact c.state ≡ true
    pub typed : Typed (state_at c.state)
    pub state : state_at c.state ≡ s.collection
    pub plan : s.collection.plan ≡ p
    pub next : c.next ≡ next_bytes s.said
    pub small : Small (words_said s.said)
    pub copy : c.copy ≡ s.copy
    pub made : length s.sent ≡ c.made + length (given s.said)
    pub checked_fit : Fit p c.checked
    pub checked : world_at c.checked ≡ s.checked
    pub counts : c.counts ≡ s.counts
    pub headers : c.headers ≡ s.headers

  -- ---- something happens

  happens_same : (v : Event) (c : Program) (s : Stand D) → Same c s → Same (happens p v c) (runHappens D v s)
  unfolding happens runHappens
  happens_same v c s r = record {
    fit = after_fit p v c.controller r.fit;
    source = after_world p v c.controller r.fit ∙ ap (act_of v) r.source;
    intact = r.intact;
    typed = r.typed;
    state = r.state;
    plan = r.plan;
    next = r.next;
    small = r.small;
    copy = r.copy;
    made = r.made;
    checked_fit = r.checked_fit;
    checked = r.checked;
    counts =
        changed_is (captures_same p.page v c.controller r.fit.intact ∙ ap (captures_of p.page v) r.source)
        (drops_same p.page v c.controller r.fit.intact ∙ ap (drops_of p.page v) r.source) r.counts;
    headers = r.headers;
  }

  happen_same : (es : List Event) (c : Program) (s : Stand D) → Same c s → Same (happen p es c) (runHappen D es s)
  unfolding happen runHappen
  happen_same [] c s r = r
  happen_same (v ∷ es) c s r = happen_same es (happens p v c) (runHappens D v s) (happens_same v c s r)

  happen_said : (es : List Event) (s : Stand D) → (runHappen D es s).said ≡ s.said
  unfolding runHappen runHappens
  happen_said [] s = refl
  happen_said (v ∷ es) s = happen_said es (runHappens D v s)

  -- ---- a step: a command of the program's own left x, which is what the run's command left

  module _ (c : Program) (s : Stand D) (r : Same c s) (awaits : length (given s.said) ≡ 1)
      (words : Words) (x : CommandAnswer) (o : Done World) (a : x.answer ≡ o.answer) (b : take (bytes_in c.controller words) x.buf ≡ o.bytes)
      (w : world_at (commanded c.controller x) ≡ o.source) (f : Fit p (commanded c.controller x)) where
    abbrev ok : Bool
    ok = eqb x.answer success

    abbrev d : List ℕ
    d = data_in c.controller words x

    fine_is : ok ≡ fine o
    fine_is = ap (λ (n : ℕ). eqb n success) a

    data_is : d ≡ data_of o
    data_is = rw (a, b)

    stepped_is : step_of (state_at c.state) ok d (length c.copy) ≡ step_of s.collection (fine o) (data_of o) (length s.copy)
    stepped_is = step_is r.state fine_is data_is r.copy

    back : state_at (step_at c.state ok d c.copy).state ≡ (step_of (state_at c.state) ok d (length c.copy)).state
    back = chained c.state ok d c.copy r.typed r.intact

    state_is : state_at (step_at c.state ok d c.copy).state ≡ (step_of s.collection (fine o) (data_of o) (length s.copy)).state
    state_is = back ∙ ap (λ (y : Stepped). y.state) stepped_is

    judged_is : judges_in c.state ≡ judged_by s.collection.phase
    judged_is = judges c.state ∙ ap (λ (y : Collection). judged_by y.phase) r.state

    abbrev now : Collection
    now = (step_of s.collection (fine o) (data_of o) (length s.copy)).state

    plan_is : now.plan ≡ p
    plan_is = (step_counts s.collection (fine o) (data_of o) (length s.copy)).plan ∙ r.plan

    steps_same : Same (steps c words x) (run_hears s o)
    unfolding hears
    steps_same = record {
      fit = f;
      source = w;
      intact = step_intact c.state ok d c.copy r.intact;
      typed = subst Typed (sym back) (step_typed (state_at c.state) ok d (length c.copy) r.typed);
      state = state_is;
      plan = plan_is;
      next = step_follows c.state ok d c.copy r.intact ∙ ap (λ (y : Stepped). next_bytes y.next) stepped_is;
      small = step_small s.collection (fine o) (data_of o) (length s.copy);
      copy = step_copy c.state ok d c.copy r.intact ∙ copy_is r.state fine_is data_is r.copy;
      made = simp length-append (omega (arith, r.made, awaits));
      checked_fit = pick_cases (Fit p) (judges_in c.state) (λ e. f) (λ e. r.checked_fit);
      checked = checked_is (judges_in c.state) (commanded c.controller x) c.checked judged_is w r.checked;
      counts = heard_is judged_is a r.counts;
      headers = headers_are judged_is data_is r.headers;
    }

  -- ---- a turn

  -- as many bytes as the words ask for
  asks : (b : Controller) (words : Words) → bytes_in b words ≡ (asked (world_at b) words).bytes
  unfolding record_at
  asks b words = refl

  -- the program's own command is the run's
  own_same : (words : Words) (l : Loan) (c : Program) (s : Stand D) → Same c s → length (given s.said) ≡ 1
      → Same (own words l c) (run_hears s (own_of l words s.source))
  unfolding own own_of after act_of
  own_same words l c s r awaits =
      let b = c.controller in
      let k = l.candidate in
      let sent = Sent words k l.buf in
      subst (λ (u : World). Same (own words l c) (run_hears s (own_of l words u))) r.source
      (steps_same c s r awaits words (command b k words l.buf) (own_of l words (world_at b))
      (command_answers b r.fit.intact k words l.buf)
      (ap (λ (m : List ℕ). take (bytes_in b words) m) (command_fills b r.fit.intact k words l.buf)
      ∙ ap (λ (n : ℕ). take n (command_of (world_at b) k words l.buf).buf) (asks b words))
      (after_world p sent b r.fit)
      (after_fit p sent b r.fit))

  -- a turn, by what was said
  turn_same : (t : Turn D) (c : Program) (s : Stand D) → Same c s → (n : Next) → s.said ≡ n → Same (turn p t c) (run_turn n t s)
  unfolding turn
  turn_same t c s r n q = by n q
    where
      kind_is : (m : Next) → s.said ≡ m → kind_in c.next ≡ kind_of m
      kind_is m g = ap kind_in r.next ∙ kind_back s.said ∙ ap kind_of g

      by : (m : Next) → s.said ≡ m → Same (turn p t c) (run_turn m t s)
      by (Send w) g =
          let words : words_in c.next ≡ w = ap words_in r.next ∙ words_back s.said r.small ∙ ap words_said g in
          rw (kind_is (Send w) g, words)
          (own_same w t.lent (happen p t.events c) (runHappen D t.events s) (happen_same t.events c s r)
          (ap (λ (m : Next). length (given m)) (happen_said t.events s ∙ g)))
      by (Ends x) g = rw (kind_is (Ends x) g) r
      by (Refuse x) g = rw (kind_is (Refuse x) g) r

  turns_same : (ts : List (Turn D)) (c : Program) (s : Stand D) → Same c s → Same (turns p ts c) (run_turns ts s)
  unfolding turns run
  turns_same [] c s r = r
  turns_same (t ∷ ts) c s r = turns_same ts (turn p t c) (run_turn s.said t s) (turn_same t c s r s.said refl)

  -- ---- the whole loop

  begins_same : (copy : List ℕ) (b : Controller) → Fit p b → Same (begins p copy b) (run_begins copy (world_at b))
  unfolding begins begun
  begins_same copy b f =
      let s = state_back (setup_of p).state (taken_typed p e) in
      record {
        fit = f;
        source = refl;
        intact = state_intact_lem (setup_of p).state;
        typed = subst Typed (sym s) (taken_typed p e);
        state = s;
        plan = rw (setup_taken p e);
        next = refl;
        small = setup_small p;
        copy = refl;
        made = omega arith;
        checked_fit = f;
        checked = refl;
        counts = refl;
        headers = refl;
      }

  -- What a program's bytes say after its loop is where the run of demand 3 stands: state, copy, controller, what follows and all that is counted.
  pub program_same : (copy : List ℕ) (b : Controller) (first : Loan) (ts : List (Turn D)) → Fit p b
      → Same (program p copy b first ts) (final ours p copy (world_at b) first ts)
  unfolding program final collected begun
  program_same copy b first ts f =
      turns_same ts _ _
      (turn_same (record { events = []; lent = first }) (begins p copy b) (run_begins copy (world_at b)) (begins_same copy b f) (setup_of p).next refl)
