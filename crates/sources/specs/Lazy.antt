-- Lazy sources, made of any source by one change: none of them keeps what a collection relies on, whatever it shows.
-- Assumes nothing.
use Rattle.std.specs.Prelude.{◌≡◌, refl, [], length, eqb}
use Rattle.std.proofs.Common.{sym, ap, ◌∙◌, arith}
use Rattle.std.proofs.Math.Bool.{true}
use borrow.Author.Tests.{eqb-true}
use Rattle.choices.specs.Tests.{each, and_left, and_right, or_cases}
use Rattle.copies.specs.Parts.{zeros}
use Rattle.answers.specs.Answers.{success, invalid_field}
use Rattle.pages.specs.Pages.{host_page, controller_page, telemetry_page, block}
use Rattle.header.specs.Header.{fields_of, fields_ok, faultless}
use Rattle.header.specs.Faults.{faultless_header}
use Rattle.plans.specs.declared.Plan.{Plan}
use Rattle.completions.specs.declared.Seen.{Seen}
use Rattle.completions.specs.Completions.{seen_of}
use Rattle.sources.specs.Source.{Source, Done}
use Rattle.sources.specs.Keeps.{Keeps}

module _ (D : Source) where
  -- with another answer to every command
  abbrev answering : (D.State → Done D.State) → Source
  answering f = record { State = D.State; Event = D.Event; Lent = D.Lent; act = D.act; captures = D.captures; drops = D.drops; command = λ l w d. f d }

  -- it refuses everything
  abbrev pub refusing : Source
  refusing = answering (λ d. record { answer = invalid_field; bytes = []; source = d })

  pub refuses_everything : (p : Plan) (K : Keeps refusing p) (l : D.Lent) (d : D.State) → K.Good d → ⊥
  refuses_everything p K l d g = let h = (K.first l [] d g refl).0 in omega (arith, h.answer)

  -- it always sends zeros
  abbrev pub zeroing : Source
  zeroing = answering (λ d. record { answer = success; bytes = zeros block; source = d })

  no_header : (p : Plan) → faultless (seen_of p (zeros block)).fault ≡ true → ⊥
  unfolding seen_of fields_ok
  no_header p e =
      let ok : fields_ok p.page p.caps.da4s (fields_of p.page (zeros block)) ≡ true =
      and_right (eqb (length (zeros block)) block) _ (sym (faultless_header p.page p.caps.da4s (zeros block)) ∙ e) in
      let page = each _ ok 0 in
      let zero = eqb-true 0 p.page (and_right (telemetry_page p.page) _ page) in
      or_cases (eqb p.page host_page) (eqb p.page controller_page) (and_left (telemetry_page p.page) _ page)
      (λ q. omega (arith, zero, eqb-true p.page host_page q))
      (λ q. omega (arith, zero, eqb-true p.page controller_page q))

  pub sends_zeros : (p : Plan) (K : Keeps zeroing p) (l : D.Lent) (d : D.State) → K.Good d → ⊥
  sends_zeros p K l d g =
      let r = K.first l [] d g refl in
      no_header p (ap (λ (h : Seen). faultless h.fault) r.0.seen ∙ K.sound d r.1)

  -- it captures nothing and drops nothing: what is counted as a capture or a drop leaves it as it is
  abbrev pub idle : Source
  idle = record { State = D.State; Event = D.Event; Lent = D.Lent; act = λ e d. d; captures = D.captures; drops = D.drops; command = D.command }

  pub captures_nothing : (p : Plan) (K : Keeps idle p) (e : D.Event) (d : D.State) → D.captures e d ≡ 1 → K.Good d → ⊥
  captures_nothing p K e d one g = omega (arith, K.moves e d g, K.byte d g, one)

  -- nor does one that drops nothing, if it has a block to drop
  pub drops_nothing : (p : Plan) (K : Keeps idle p) (e : D.Event) (d : D.State) → D.drops e d ≡ 1 → K.Good d → ((K.shows d).last ≡ zeros 4 → ⊥) → ⊥
  drops_nothing p K e d one g some = some (K.empties e d g (omega (arith, one)))
