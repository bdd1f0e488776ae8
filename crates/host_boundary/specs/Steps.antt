-- What the code's calls come to, one after another.
-- Assumes nothing.
use Rattle.std.specs.Prelude.{ℕ, ◌≡◌, List, Bool, true, false, not, length}
use Rattle.std.proofs.Common.{sym, ap, ◌∙◌}
use borrow.Author.Tests.{eq-eqb, ne_eqb, not-true, not-false}
use Rattle.answers.specs.Answers.{bad_setup}
use Rattle.words.specs.Words.{Built}
use Rattle.pages.specs.declared.Caps.{Caps}
use Rattle.completions.specs.Plan.{Planned, plan_of}
use Rattle.collection.specs.declared.Collection.{Collection}
use Rattle.collection.specs.declared.Next.TheVariants.{Refuse}
use Rattle.collection.specs.Told.{Stepped}
use Rattle.collection.specs.Collection.{step_of, copy_after}
use Rattle.planned_layout.specs.Layout.{planned_bytes}
use Rattle.state_layout.specs.Layout.{state_bytes, state_at, state_intact}
use Rattle.next_layout.specs.Layout.{refusal, kind_of, next_bytes}
use Rattle.host_boundary.specs.Boundary.{words_list, step_answer, state_after, step_at}

pub plan_is : (page area chunk room : ℕ) (h : List ℕ) {can caps : Caps} {x : Planned} {w : List ℕ} → can ≡ caps → x ≡ plan_of page area can chunk room h
    → w ≡ planned_bytes page x → (x.answer ≡ (plan_of page area caps chunk room h).answer) × (w ≡ planned_bytes page (plan_of page area caps chunk room h))
plan_is page area chunk room h ec ex ew =
    let e = ex ∙ ap (λ (c : Caps). plan_of page area c chunk room h) ec in
    (ap (λ (y : Planned). y.answer) e, ew ∙ ap (planned_bytes page) e)

pub words_are : {x y : Built} {w : List ℕ} → x ≡ y → w ≡ words_list x.words → (x.answer ≡ y.answer) × (w ≡ words_list y.words)
words_are e w = (ap (λ (b : Built). b.answer) e, w ∙ ap (λ (b : Built). words_list b.words) e)

pub setup_is : {x y : Stepped} {k : ℕ} {s n : List ℕ} → x ≡ y → s ≡ state_bytes x.state → n ≡ next_bytes x.next → k ≡ kind_of x.next
    → (k ≡ kind_of y.next) × (s ≡ state_bytes y.state) × (n ≡ next_bytes y.next)
setup_is e s n k = (
  k ∙ ap (λ (x : Stepped). kind_of x.next) e,
  s ∙ ap (λ (x : Stepped). state_bytes x.state) e,
  n ∙ ap (λ (x : Stepped). next_bytes x.next) e,
)

-- ---- a step

pub kept_state : (s : List ℕ) (k : ℕ) (after : Collection) → k ≡ refusal → s ≡ state_after s k after
kept_state s k after e = rw (eq-eqb k refusal e)

pub next_state : (s : List ℕ) (k : ℕ) (after : Collection) {w : List ℕ} → (k ≡ refusal → ⊥) → w ≡ state_bytes after → w ≡ state_after s k after
next_state s k after n e = rw (ne_eqb k refusal n) e

module _ (s : List ℕ) (ok : Bool) (d copy : List ℕ) where
  pub step_damaged : {t : Bool} {n : List ℕ} → t ≡ state_intact s → not t ≡ true → n ≡ next_bytes (Refuse bad_setup)
      → step_answer refusal s copy n ≡ step_at s ok d copy
  unfolding step_at
  step_damaged e f n = rw (sym e ∙ not-true _ f, n)

  pub step_taken : {t : Bool} {z : Collection} {x : Stepped} {w after n : List ℕ} {k : ℕ} → t ≡ state_intact s → not t ≡ false
      → z ≡ state_at s → (x ≡ step_of z ok d (length copy)) × (after ≡ copy_after z ok d copy)
      → k ≡ kind_of x.next → w ≡ state_after s k x.state → n ≡ next_bytes x.next
      → step_answer k w after n ≡ step_at s ok d copy
  unfolding step_at
  step_taken e f z x k w n = rw (sym e ∙ not-false _ f, w, k, n, x.0, x.1, z)
