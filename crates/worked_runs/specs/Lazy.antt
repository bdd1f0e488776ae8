-- Lazy collectors: each is ours but for one thing.
-- Assumes nothing.
use Rattle.std.specs.Prelude.{ℕ, ◌+◌, List, false, length, leb}
use Rattle.choices.specs.Choice.{pick}
use Rattle.copies.specs.Parts.{zeros}
use Rattle.phases.specs.declared.Phase.{Phase}
use Rattle.phases.specs.declared.Phase.TheVariants.{First, Ended}
use Rattle.phases.specs.Phases.{closing_by}
use Rattle.completions.specs.Completions.{seen_of}
use Rattle.endings.specs.declared.Ending.{Ending}
use Rattle.endings.specs.declared.Ending.TheVariants.{Success}
use Rattle.collection.specs.Collection.{setup_of, step_of, copy_after, sends, ends}
use Rattle.collection.specs.declared.Collection.{Collection}
use Rattle.collection.specs.Told.{Next}
use Rattle.collection.specs.declared.Next.TheVariants.{Send, End as Ends, Refuse}
use Rattle.collection.specs.Told.{Stepped}
use Rattle.sources.specs.Source.{Collector}

-- a state as it is in another phase
abbrev pub moved_to : Collection → Phase → Collection
moved_to s f = record { plan = s.plan; phase = f; attempt = s.attempt; count = s.count }

-- the first completion ends it, in this way, with a copy of zeros
abbrev pub stops_with : Ending → Collector
stops_with e = record { setup = setup_of; step = λ s ok d n. ends (moved_to s Ended) e; copied = λ s ok d copy. zeros (length copy) }

-- it never ends: after any completion it sends its first command once more
abbrev pub never_stops : Collector
never_stops = record {
  setup = setup_of;
  step = λ s ok d n. sends (record { plan = s.plan; phase = First; attempt = s.attempt; count = s.count + 1 });
  copied = λ s ok d copy. copy;
}

-- it reads the generation once: where ours sends a closing header, the copy stands
abbrev without_close : Collection → Stepped → Stepped
without_close s x = pick (closing_by x.state.phase) (ends (moved_to s Ended) (Success false)) x

abbrev pub reads_once : Collector
reads_once = record { setup = setup_of; step = λ s ok d n. without_close s (step_of s ok d n); copied = copy_after }

-- it compares no generations: whatever generation a closing header has is the attempt's
abbrev trusting : Collection → List ℕ → Collection
trusting s d = record {
  plan = s.plan;
  phase = s.phase;
  attempt = record { number = s.attempt.number; generation = pick (closing_by s.phase) (seen_of s.plan d).generation s.attempt.generation; last = s.attempt.last };
  count = s.count;
}

abbrev pub compares_nothing : Collector
compares_nothing = record { setup = setup_of; step = λ s ok d n. step_of (trusting s d) ok d n; copied = λ s ok d copy. copy_after (trusting s d) ok d copy }

-- it compares generations alone, as ours did before a drop was known: whatever last blocks a closing header has are the attempt's
abbrev lenient : Collection → List ℕ → Collection
lenient s d = record {
  plan = s.plan;
  phase = s.phase;
  attempt = record { number = s.attempt.number; generation = s.attempt.generation; last = pick (closing_by s.phase) (seen_of s.plan d).last s.attempt.last };
  count = s.count;
}

abbrev pub compares_generations : Collector
compares_generations = record { setup = setup_of; step = λ s ok d n. step_of (lenient s d) ok d n; copied = copy_after }

-- it does its first chunk and fakes the rest: the data of a later one is not put into the copy
abbrev pub fakes_the_rest : Collector
fakes_the_rest = record { setup = setup_of; step = step_of; copied = λ s ok d copy. pick (leb s.count 2) (copy_after s ok d copy) copy }

-- it invents its count: an ending says one command more
abbrev invented : Next → Next
invented (Send w) = Send w
invented (Ends e) = Ends (record { ending = e.ending; count = e.count + 1 })
invented (Refuse n) = Refuse n

abbrev pub invents_its_count : Collector
invents_its_count = record { setup = setup_of; step = λ s ok d n. record { state = (step_of s ok d n).state; next = invented (step_of s ok d n).next }; copied = copy_after }
