-- A run of a collector from a source: the collector's commands are answered by the source, and before each of them but the first anything may
-- happen to it.
-- Assumes nothing.
use Rattle.std.specs.Prelude.{ℕ, ◌+◌, List, [], ◌∷◌, ◌++◌, Bool, ◌&&◌, length, leb, eqb}
use Rattle.choices.specs.Choice.{pick, larger}
use Rattle.answers.specs.Answers.{success, short_buffer, broken_candidate}
use Rattle.words.specs.declared.Words.{Words}
use Rattle.plans.specs.declared.Plan.{Plan}
use Rattle.phases.specs.Phases.{judged_by}
use Rattle.collection.specs.declared.Collection.{Collection}
use Rattle.collection.specs.Told.{Next}
use Rattle.collection.specs.declared.Next.TheVariants.{Send, End as Ends, Refuse}
use Rattle.collection.specs.Told.{Stepped}
use Rattle.collection.specs.Collection.{setup_of, step_of, copy_after}
use Rattle.runs.specs.Run.{given}

-- ---- a source

-- what a command leaves: the answer, the bytes transferred, the source
pub record Done (S : Type 0) : Type 0 where
  pub answer : ℕ
  pub bytes : List ℕ
  pub source : S

-- what may happen to a source, how many captures and how many drops of the page collected that makes, and its answer to a command with what is lent
-- to it
pub record Source : Type 1 where
  pub State : Type 0
  pub Event : Type 0
  pub Lent : Type 0
  pub act : Event → State → State
  pub captures : Event → State → ℕ
  pub drops : Event → State → ℕ
  pub command : Lent → Words → State → Done State

-- ---- a collector

-- what setup says of a plan; and of a state, a completion (whether it is a success, and its data) and a copy: the step and what it leaves of the copy
pub record Collector : Type 0 where
  pub setup : Plan → Stepped
  pub step : Collection → Bool → List ℕ → ℕ → Stepped
  pub copied : Collection → Bool → List ℕ → List ℕ → List ℕ

-- the one that is proved
abbrev pub ours : Collector
ours = record { setup = setup_of; step = step_of; copied = copy_after }

-- ---- a run

-- what happens before a command of the run, and what that command is lent
pub record Turn (D : Source) : Type 0 where
  pub events : List D.Event
  pub lent : D.Lent

-- what is counted of a run: the captures and the drops since the last header that was judged, both together since the first command, the most captures
-- between a header that opens an attempt and the one that closes it, and how many commands of the run were refused for lent data
pub record Counters : Type 0 where
  pub captures : ℕ
  pub drops : ℕ
  pub changes : ℕ
  pub most_in_attempt : ℕ
  pub lent_refusals : ℕ

-- before the first command
abbrev pub uncounted : Counters
uncounted = record { captures = 0; drops = 0; changes = 0; most_in_attempt = 0; lent_refusals = 0 }

-- n captures and m drops more
abbrev pub changed : ℕ → ℕ → Counters → Counters
changed n m c =
    record { captures = c.captures + n; drops = c.drops + m; changes = c.changes + n + m; most_in_attempt = c.most_in_attempt; lent_refusals = c.lent_refusals }

-- a completion, which judges a header or not and is a refusal for lent data or not: the first header that is judged opens an attempt, and each later one
-- closes an attempt and may open the next
abbrev pub heard : Bool → Bool → Counters → Counters
heard judged lent c = record {
  captures = pick judged 0 c.captures;
  drops = pick judged 0 c.drops;
  changes = c.changes;
  most_in_attempt = pick judged (larger c.most_in_attempt c.captures) c.most_in_attempt;
  lent_refusals = c.lent_refusals + pick lent 1 0;
}

-- where a run stands: the collection, what setup or the last step said, the copy and the source; and what the promise speaks of: the commands
-- given, in order, the data of the headers that were judged, the last one first, the source as it stood at that one, and what is counted
pub record Stand (D : Source) : Type 0 where
  pub collection : Collection
  pub said : Next
  pub copy : List ℕ
  pub source : D.State
  pub sent : List Words
  pub headers : List (List ℕ)
  pub checked : D.State
  pub counts : Counters

-- the answers 3, 4 and 5
abbrev pub for_lent : ℕ → Bool
for_lent answer = leb short_buffer answer && leb answer broken_candidate

-- a completion: whether it is a success, and its data, which a refusal has none of
abbrev pub fine : {S : Type 0} → Done S → Bool
fine o = eqb o.answer success

abbrev pub data_of : {S : Type 0} → Done S → List ℕ
data_of o = pick (fine o) o.bytes []

module _ (D : Source) where
  -- something happens
  unfoldable pub happens : D.Event → Stand D → Stand D
  happens e s = record {
    collection = s.collection;
    said = s.said;
    copy = s.copy;
    source = D.act e s.source;
    sent = s.sent;
    headers = s.headers;
    checked = s.checked;
    counts = changed (D.captures e s.source) (D.drops e s.source) s.counts;
  }

  -- and one thing after another
  unfoldable pub happen : List D.Event → Stand D → Stand D
  happen [] s = s
  happen (e ∷ es) s = happen es (happens e s)

  -- the step x was made on the completion o and left this copy
  abbrev pub stepped : Stand D → Done D.State → Stepped → List ℕ → Stand D
  stepped s o x copy = record {
    collection = x.state;
    said = x.next;
    copy = copy;
    source = o.source;
    sent = s.sent ++ given x.next;
    headers = pick (judged_by s.collection.phase) (data_of o ∷ s.headers) s.headers;
    checked = pick (judged_by s.collection.phase) o.source s.checked;
    counts = heard (judged_by s.collection.phase) (for_lent o.answer) s.counts;
  }

module _ (C : Collector) (D : Source) where
  -- the awaited command's completion is handed to the collector
  unfoldable pub hears : Stand D → Done D.State → Stand D
  hears s o = stepped D s o (C.step s.collection (fine o) (data_of o) (length s.copy)) (C.copied s.collection (fine o) (data_of o) s.copy)

  -- a command of the run
  abbrev pub sends : Words → D.Lent → Stand D → Stand D
  sends w l s = hears s (D.command l w s.source)

  -- things happen, then the next command is sent; once the collector says no command, the run stands still
  abbrev pub turn_by : Next → Turn D → Stand D → Stand D
  turn_by (Send w) t s = sends w t.lent (happen D t.events s)
  turn_by (Ends e) t s = s
  turn_by (Refuse n) t s = s

  -- turn after turn
  unfoldable pub run : List (Turn D) → Stand D → Stand D
  run [] s = s
  run (t ∷ ts) s = run ts (turn_by s.said t s)

  -- setup, before the first command
  unfoldable pub begun : Plan → List ℕ → D.State → Stand D
  begun p copy d = record {
    collection = (C.setup p).state;
    said = (C.setup p).next;
    copy = copy;
    source = d;
    sent = given (C.setup p).next;
    headers = [];
    checked = d;
    counts = uncounted;
  }

  -- the whole run: the first command with what it is lent, and then the turns
  unfoldable pub collected : Plan → List ℕ → D.State → D.Lent → List (Turn D) → Stand D
  collected p copy d first ts = run ts (turn_by (C.setup p).next (record { events = []; lent = first }) (begun p copy d))
