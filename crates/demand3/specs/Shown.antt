-- What a page shows of a world: its header's fields and the bytes of its wanted area; and what a header that the controller sends is seen to show.
-- Assumes nothing.
use Rattle.std.specs.Prelude.{ℕ, ◌≤◌, ◌≡◌, refl, List, Bool, true, false, not, ◌&&◌, length, take, get_or, eqb, None}
use Rattle.std.proofs.Common.{sym, ap, subst, ◌∙◌, arith, eq-eqb}
use Rattle.std.proofs.lemmas.Bool.{eqb-false}
use Rattle.choices.specs.Choice.{pick, pick_cases}
use Rattle.choices.specs.Tests.{by_test, clash, each, and_left}
use Rattle.answers.specs.Answers.{success}
use Rattle.pages.specs.declared.Caps.{Caps}
use Rattle.pages.specs.Pages.{host_page, telemetry_page, block, last_of, area4, blocks_of, per_page}
use Rattle.lastblocks.specs.Rule.{LastRule}
use Rattle.pages.specs.Laws.{by_page}
use Rattle.header.specs.declared.Fields.{Fields}
use Rattle.header.specs.Header.{header_of, check_of}
use Rattle.records.specs.Records.{host_fields, controller_fields, fields_for, blocks_for}
use Rattle.records.specs.Back.{Typed, agreed, record_reads_back}
use Rattle.serving.specs.Serving.{window_of, window_length}
use Rattle.plans.specs.declared.Plan.{Plan}
use Rattle.completions.specs.declared.Seen.{Seen}
use Rattle.plans.specs.Limits.{plan_taken, plan_limits}
use Rattle.plans.specs.Plans.{plan_tests, setup_answer, area_last, area_bytes}
use Rattle.completions.specs.Completions.{generation_of, seen_of}
use Rattle.controller.specs.Controller.{World, store_for, page_of}
use Rattle.controller.specs.Asked.{Agrees}
use Rattle.demand3.specs.Answered.{header_long, own_blocks}

-- the page's own generation
abbrev pub generation_for : ℕ → World → ℕ
generation_for page w = per_page page w.own.host.generation w.own.controller.generation

-- what the header of a page shows
unfoldable pub shows_for : ℕ → World → Seen
shows_for page w = record {
  answer = success;
  fault = None;
  tcda = (fields_for page w.own).tcda;
  generation = generation_for page w;
  last = (fields_for page w.own).last;
}

-- the wanted area: the page's bytes from its block 1 to the area's last block
unfoldable pub wanted_area : Plan → World → List ℕ
wanted_area p w = window_of block (area_bytes p (fields_for p.page w.own).last) (page_of p.page w)

-- a world that the plan was set up for
pub record Good (p : Plan) (w : World) : Type 0 where
  pub agrees : Agrees w
  pub typed : Typed w.own
  pub caps : w.own.caps ≡ p.caps

-- ---- a header that the controller sends

-- the page's own generation byte is in its place
generation_at : (page : ℕ) (f : Fields) → f.page ≡ page → length (header_of f) ≡ block
    → generation_of page (header_of f) ≡ per_page page f.hostgeneration f.controllergeneration
unfolding generation_of header_of
generation_at page f e l = rw (eq-eqb _ block l, e) (by (eqb page host_page))
  where
    by : (t : Bool) → pick t (pick t f.hostgeneration f.scope) f.controllergeneration ≡ pick t f.hostgeneration f.controllergeneration
    by true = refl
    by false = refl

fields_page : (page : ℕ) (w : World) → telemetry_page page ≡ true → (fields_for page w.own).page ≡ page
unfolding fields_for host_fields controller_fields
fields_page page w t = by_page (λ (n : ℕ). (fields_for n w.own).page ≡ n) page t refl refl

generation_shown : (page : ℕ) (w : World) → per_page page (fields_for page w.own).hostgeneration (fields_for page w.own).controllergeneration ≡ generation_for page w
unfolding fields_for host_fields controller_fields
generation_shown page w = by_test (eqb page host_page) (λ e. rw e) (λ e. rw e)

-- is seen to show just what it was written from
pub header_shown : (p : Plan) (w : World) → Good p w → telemetry_page p.page ≡ true
    → seen_of p (header_of (fields_for p.page w.own)) ≡ shows_for p.page w
unfolding seen_of shows_for
header_shown p w g t =
    let back : check_of p.page p.caps.da4s (header_of (fields_for p.page w.own)) ≡ record { fault = None; fields = fields_for p.page w.own } =
    ap (λ (c : Caps). check_of p.page c.da4s (header_of (fields_for p.page w.own))) (sym g.caps)
    ∙ record_reads_back w.own (length w.host) (length w.controller) p.page g.typed.sized g.agrees t in
    let gen : generation_of p.page (header_of (fields_for p.page w.own)) ≡ generation_for p.page w =
    generation_at p.page (fields_for p.page w.own) (fields_page p.page w t) (header_long p.page w g.typed.sized) ∙ generation_shown p.page w in
    rw (back, gen)

-- ---- the wanted area

rule_for : (page : ℕ) (w : World) → Agrees w → LastRule w.own.caps.da4s (fields_for page w.own).last
unfolding fields_for host_fields controller_fields
rule_for page w a =
    let k = agreed w.own (length w.host) (length w.controller) a in
    by_test (eqb page host_page) (λ e. rw e k.host.rule) (λ e. rw e k.controller.fits.rule)

-- areas 1 to 3 nest, and so does area 4 where it counts
nests : (da4s : Bool) (area n : ℕ) (a : List ℕ) → LastRule da4s a → 1 ≤ area → area ≤ 4 → get_or a 2 0 ≤ n → (area ≡ 4 → get_or a 3 0 ≤ n) → last_of area a ≤ n
nests da4s area n a r low high three four =
    pick_cases (λ (x : ℕ). x ≤ n) (eqb area 1) (λ e. omega (arith, r.one_two, r.two_three))
    (λ e. pick_cases (λ (x : ℕ). x ≤ n) (eqb area 2) (λ f. omega (arith, r.two_three))
    (λ f. pick_cases (λ (x : ℕ). x ≤ n) (eqb area 3) (λ g. three)
    (λ g. four (omega (arith, eqb-false area 1 e, eqb-false area 2 f, eqb-false area 3 g)))))

-- so it lies within the page
within_page : (caps : Caps) (area : ℕ) (a : List ℕ) → LastRule caps.da4s a → 1 ≤ area → area ≤ 4 → eqb area 4 && not (area4 caps) ≡ false
    → last_of area a ≤ blocks_of caps a
unfolding blocks_of
within_page caps area a r low high e =
    pick_cases (λ (n : ℕ). last_of area a ≤ n) (area4 caps)
    (λ f. nests caps.da4s area (get_or a 3 0) a r low high (r.three_four (and_left caps.da4s caps.etdas f)) (λ q. omega arith))
    (λ f. nests caps.da4s area (get_or a 2 0) a r low high (omega arith) (λ q. clash {t = true} refl (rw (f, q) at e)))

pub area_blocks : (p : Plan) (w : World) → Good p w → setup_answer p ≡ success
    → area_last p (fields_for p.page w.own).last ≤ blocks_for p.page w.own
area_blocks p w g e =
    let l = plan_limits p e in
    let a : List ℕ = (fields_for p.page w.own).last in
    subst (λ (c : Caps). area_last p a ≤ blocks_of c a) (sym g.caps)
    (within_page p.caps p.area a (subst (λ (c : Caps). LastRule c.da4s a) g.caps (rule_for p.page w g.agrees)) l.area_low l.area_high (plan_taken p e).1)

pub plan_page : (p : Plan) → setup_answer p ≡ success → telemetry_page p.page ≡ true
plan_page p e = each (plan_tests p) (plan_taken p e).0 0

pub area_long : (p : Plan) (w : World) → length (wanted_area p w) ≡ area_bytes p (shows_for p.page w).last
unfolding wanted_area shows_for
area_long p w = window_length block (area_bytes p (fields_for p.page w.own).last) (page_of p.page w)

-- and is what the page's store has in front
pub area_stored : (p : Plan) (w : World) → Good p w → setup_answer p ≡ success
    → wanted_area p w ≡ take (area_bytes p (fields_for p.page w.own).last) (store_for p.page w)
unfolding wanted_area
area_stored p w g e =
    let b = area_blocks p w g e in
    own_blocks w p.page 1 (area_last p (fields_for p.page w.own).last) g.typed g.agrees (plan_page p e) (omega arith) (omega arith)
