-- A C program's loop over the functions of include/bumbazeel.h: `bumbazeel_setup`, then turn after turn `bumbazeel_command` with the words of `next` and
-- `bumbazeel_step` with what came of it, while other hosts' commands, captures and drops reach the same controller in between. Every call is lent the
-- bytes that the last one left.
-- Assumes nothing.
use Rattle.std.specs.Prelude.{ℕ, ◌+◌, ◌-◌, ◌*◌, List, [], ◌∷◌, Bool, true, ◌&&◌, ◌||◌, take, get_or, eqb}
use Rattle.choices.specs.Choice.{pick, one}
use Rattle.littleendian.specs.Numbers.{value_at}
use Rattle.answers.specs.Answers.{success}
use Rattle.pages.specs.Pages.{host_page, controller_page, block, per_page}
use Rattle.words.specs.declared.Words.{Words}
use Rattle.words.specs.Words.{read_of}
use Rattle.plans.specs.declared.Plan.{Plan}
use Rattle.collection.specs.Collection.{setup_of}
use Rattle.controller.specs.Controller.{Candidate}
use Rattle.sources.specs.Source.{Turn, Counters, uncounted, changed, heard, for_lent}
use Rattle.demand3.specs.Bench.{Event, Sent, Taken, Dropped, Loan, controller_source}
use Rattle.shared_layouts.specs.Layouts.{caps_of}
use Rattle.state_layout.specs.Layout.{state_bytes}
use Rattle.next_layout.specs.Layout.{send, next_bytes}
use Rattle.host_boundary.specs.Boundary.{StepAnswer, step_at}
use Rattle.controller_boundary.specs.Boundary.{words_of, CommandAnswer, command_at, CaptureAnswer, capture_at, DropAnswer, drop_at}

-- ---- the controller

-- what `bumbazeel_command`, `bumbazeel_capture` and `bumbazeel_drop` are lent of it: struct bumbazeel_record, host store and controller store
pub record Controller : Type 0 where
  pub own : List ℕ
  pub host : List ℕ
  pub controller : List ℕ

-- the last block of an area of the page: an element of `host_last` or `controller_last` of struct bumbazeel_record
abbrev pub last_in : ℕ → ℕ → Controller → ℕ
last_in page area b = value_at 4 (per_page page 12 28 + 4 * (area - 1)) b.own

-- the bytes of an area of the page: its store's blocks up to that one
abbrev pub area_in : ℕ → ℕ → Controller → List ℕ
area_in page area b = take (block * last_in page area b) (per_page page b.host b.controller)

-- the three calls
abbrev pub command : Controller → Candidate → Words → List ℕ → CommandAnswer
command b candidate words buf = command_at b.own b.host b.controller candidate words buf

abbrev pub capture : Controller → Candidate → CaptureAnswer
capture b candidate = capture_at b.own b.host b.controller candidate

abbrev pub drop : Controller → DropAnswer
drop b = drop_at b.own b.host b.controller

-- and what they leave of it
abbrev pub commanded : Controller → CommandAnswer → Controller
commanded b x = record { own = x.own; host = x.host; controller = b.controller }

abbrev pub taken : Controller → CaptureAnswer → Controller
taken b x = record { own = x.own; host = b.host; controller = x.controller }

abbrev pub dropped : Controller → DropAnswer → Controller
dropped b x = record { own = x.own; host = b.host; controller = b.controller }

-- what may happen to it between two commands of the program: a command of any words, a capture, or a drop
unfoldable pub after : Event → Controller → Controller
after (Sent words candidate buf) b = commanded b (command b candidate words buf)
after (Taken candidate) b = taken b (capture b candidate)
after Dropped b = dropped b (drop b)

-- one where that captured the page, by its answer: a create on 07h, or a capture on 08h, that was answered 0
unfoldable pub captures_by : ℕ → Event → Controller → ℕ
captures_by page (Sent words candidate buf) b = one (eqb page host_page && (read_of true words).create && eqb (command b candidate words buf).answer success)
captures_by page (Taken candidate) b = one (eqb page controller_page && eqb (capture b candidate).answer success)
captures_by page Dropped b = 0

-- one where it was a drop of 07h that was answered 0
unfoldable pub drops_by : ℕ → Event → Controller → ℕ
drops_by page (Sent words candidate buf) b = 0
drops_by page (Taken candidate) b = 0
drops_by page Dropped b = one (eqb page host_page && eqb (drop b).answer success)

-- ---- the program

-- what it holds: the controller's bytes, struct bumbazeel_state, struct bumbazeel_next and the copy. And what one who watches its calls can tell: how many
-- times it called `bumbazeel_command`, the data of the headers that were judged, the last one first, the controller's bytes after that one, and what is
-- counted: the captures and drops since then and since the first command, the most captures in an attempt, and its answers 3, 4 and 5
pub record Program : Type 0 where
  pub controller : Controller
  pub state : List ℕ
  pub next : List ℕ
  pub copy : List ℕ
  pub made : ℕ
  pub headers : List (List ℕ)
  pub checked : Controller
  pub counts : Counters

-- `kind`, `answer`, `newer` and `bad_field` of struct bumbazeel_next, and its five words
abbrev pub kind_in : List ℕ → ℕ
kind_in next = get_or next 0 0

abbrev pub answer_in : List ℕ → ℕ
answer_in next = get_or next 1 0

abbrev pub newer_in : List ℕ → ℕ
newer_in next = get_or next 2 0

abbrev pub field_in : List ℕ → ℕ
field_in next = get_or next 3 0

abbrev pub words_in : List ℕ → Words
words_in next = words_of (value_at 4 4 next ∷ value_at 4 8 next ∷ value_at 4 12 next ∷ value_at 4 16 next ∷ value_at 4 20 next ∷ [])

-- `phase` of struct bumbazeel_state: the first header or a closing one is awaited, which the next step judges
unfoldable pub judges_in : List ℕ → Bool
judges_in state = eqb (get_or state 0 0) 0 || eqb (get_or state 0 0) 2 || eqb (get_or state 0 0) 3

-- as many bytes as the words ask for, with extended data in `caps` of struct bumbazeel_record or without
abbrev pub bytes_in : Controller → Words → ℕ
bytes_in b words = (read_of (caps_of (get_or b.own 0 0)).extended words).bytes

-- the data of a completion: with success that many bytes from the buffer's front, and none with a refusal
abbrev pub data_in : Controller → Words → CommandAnswer → List ℕ
data_in b words x = pick (eqb x.answer success) (take (bytes_in b words) x.buf) []

-- after `bumbazeel_command` left x, and `bumbazeel_step` took the data d and left y
abbrev pub stepped : Program → CommandAnswer → List ℕ → StepAnswer → Program
stepped c x d y = record {
  controller = commanded c.controller x;
  state = y.state;
  next = y.follows;
  copy = y.copy;
  made = c.made + 1;
  headers = pick (judges_in c.state) (d ∷ c.headers) c.headers;
  checked = pick (judges_in c.state) (commanded c.controller x) c.checked;
  counts = heard (judges_in c.state) (for_lent x.answer) c.counts;
}

-- `bumbazeel_step` after `bumbazeel_command` of these words left x
abbrev pub steps : Program → Words → CommandAnswer → Program
steps c words x = stepped c x (data_in c.controller words x) (step_at c.state (eqb x.answer success) (data_in c.controller words x) c.copy)

-- a command of the program's own, with what it is lent
unfoldable pub own : Words → Loan → Program → Program
own words l c = steps c words (command c.controller l.candidate words l.buf)

module _ (p : Plan) where
  -- something happens to the controller
  unfoldable pub happens : Event → Program → Program
  happens e c = record {
    controller = after e c.controller;
    state = c.state;
    next = c.next;
    copy = c.copy;
    made = c.made;
    headers = c.headers;
    checked = c.checked;
    counts = changed (captures_by p.page e c.controller) (drops_by p.page e c.controller) c.counts;
  }

  -- and one thing after another
  unfoldable pub happen : List Event → Program → Program
  happen [] c = c
  happen (e ∷ es) c = happen es (happens e c)

  -- things happen, then the program sends the words of `next`; once `kind` is not BUMBAZEEL_SEND it stands still
  unfoldable pub turn : Turn (controller_source p.page) → Program → Program
  turn t c = pick (eqb (kind_in c.next) send) (own (words_in c.next) t.lent (happen t.events c)) c

  -- turn after turn
  unfoldable pub turns : List (Turn (controller_source p.page)) → Program → Program
  turns [] c = c
  turns (t ∷ ts) c = turns ts (turn t c)

  -- `bumbazeel_setup`, with a copy and a controller
  unfoldable pub begins : List ℕ → Controller → Program
  begins copy b = record {
    controller = b;
    state = state_bytes (setup_of p).state;
    next = next_bytes (setup_of p).next;
    copy = copy;
    made = 0;
    headers = [];
    checked = b;
    counts = uncounted;
  }

  -- the whole loop: setup, the first command with what it is lent, and then the turns
  unfoldable pub program : List ℕ → Controller → Loan → List (Turn (controller_source p.page)) → Program
  program copy b first ts = turns ts (turn (record { events = []; lent = first }) (begins copy b))
