-- A page's bytes, and a transfer of them: document 01, "Header bytes": the header, then the blocks, and bytes past the end are zeros.
-- Assumes nothing.
use Rattle.std.specs.Prelude.{ℕ, ◌+◌, ◌-◌, ◌*◌, ◌≤◌, min, ◌≡◌, refl, ◌&&◌, List, ◌++◌, length, take, drop, leb}
use Rattle.std.proofs.Common.{sym, ap, ◌∙◌, append_assoc, arith, length-take, length-append, take_at, drop_at, drop-drop, le-leb, leb-true}
use Rattle.std.proofs.lemmas.List.{replicate-append-replicate}
use Rattle.choices.specs.Choice.{pick, pick_cases}
use Rattle.choices.specs.Tests.{and_left, and_right}
use Rattle.copies.specs.Lists.{take-append, drop-append, drop-take, take-zeros}
use Rattle.copies.specs.Parts.{zeros, length-zeros}
use Rattle.pages.specs.Pages.{block}

-- the lesser of two numbers
unfoldable pub lesser_of : ℕ → ℕ → ℕ
lesser_of a b = min a b

-- a page: its header, then the first blocks of its store
unfoldable pub page_bytes : List ℕ → List ℕ → ℕ → List ℕ
page_bytes header store blocks = header ++ take (block * blocks) store

-- the n bytes of a page from an offset on, with zeros past its end
unfoldable pub window_of : ℕ → ℕ → List ℕ → List ℕ
window_of offset n page = take n (drop offset page ++ zeros n)

-- the buffer with a transfer in front, unchanged where the blocks are not in the store or the transfer does not fit
unfoldable pub served_into : List ℕ → List ℕ → ℕ → ℕ → ℕ → List ℕ → List ℕ
served_into header store blocks offset n buf =
    pick (leb (block * blocks) (length store) && leb n (length buf)) (window_of offset n (page_bytes header store blocks) ++ drop n buf) buf

pub served_fits : (header store : List ℕ) (blocks offset n : ℕ) (buf : List ℕ) → block * blocks ≤ length store → n ≤ length buf
    → served_into header store blocks offset n buf ≡ window_of offset n (page_bytes header store blocks) ++ drop n buf
unfolding served_into
served_fits header store blocks offset n buf h k = rw (le-leb (block * blocks) (length store) h, le-leb n (length buf) k)

-- a window is as long as it was asked for
pub window_length : (offset n : ℕ) (page : List ℕ) → length (window_of offset n page) ≡ n
unfolding window_of
window_length offset n page = simp (length-take, length-append, length-zeros) (omega arith)

-- a window less its first bytes is the window that starts after them
drop-zeros : (i n : ℕ) → i ≤ n → drop i (zeros n) ≡ zeros (n - i)
drop-zeros i n h =
    ap (λ (k : ℕ). drop i (zeros k)) (let e : n ≡ i + (n - i) = omega arith in e)
    ∙ ap (λ (l : List ℕ). drop i l) (sym (replicate-append-replicate i (n - i) 0))
    ∙ drop_at (zeros i) (zeros (n - i)) i (length-zeros i)

enough_zeros : (page : List ℕ) (n z : ℕ) → n ≤ z → take n (page ++ zeros z) ≡ take n (page ++ zeros n)
enough_zeros page n z h =
    take-append n page (zeros z)
    ∙ ap (λ (l : List ℕ). take n page ++ l) (take-zeros (n - length page) z (omega arith) ∙ sym (take-zeros (n - length page) n (omega arith)))
    ∙ sym (take-append n page (zeros n))

pub window_after : (offset front n : ℕ) (page : List ℕ) → drop front (window_of offset (front + n) page) ≡ window_of (offset + front) n page
unfolding window_of
window_after offset front n page =
    let rest = drop offset page in
    drop-take (front + n) front (rest ++ zeros (front + n))
    ∙ ap (λ (k : ℕ). take k (drop front (rest ++ zeros (front + n)))) (let e : front + n - front ≡ n = omega arith in e)
    ∙ ap (λ (l : List ℕ). take n l)
    (drop-append front rest (zeros (front + n))
    ∙ ap (λ (l : List ℕ). drop front rest ++ l) (drop-zeros (front - length rest) (front + n) (omega arith)))
    ∙ enough_zeros (drop front rest) n (front + n - (front - length rest)) (omega arith)
    ∙ ap (λ (l : List ℕ). take n (l ++ zeros n)) (drop-drop front offset page)

-- the header read alone, 512 bytes from 0, is the header
pub window_header : (header store : List ℕ) (blocks : ℕ) → length header ≡ block → window_of 0 block (page_bytes header store blocks) ≡ header
unfolding window_of page_bytes
window_header header store blocks e =
    ap (λ (l : List ℕ). take block l) (append_assoc header (take (block * blocks) store) (zeros block))
    ∙ take_at header (take (block * blocks) store ++ zeros block) block e

-- what does not fit is not served
pub served_not : (header store : List ℕ) (blocks offset n : ℕ) (buf : List ℕ) → ((block * blocks ≤ length store) × (n ≤ length buf) → ⊥)
    → served_into header store blocks offset n buf ≡ buf
unfolding served_into
served_not header store blocks offset n buf h =
    pick_cases (λ (l : List ℕ). l ≡ buf) (leb (block * blocks) (length store) && leb n (length buf))
    (λ e. absurd (h (leb-true _ _ (and_left _ (leb n (length buf)) e), leb-true _ _ (and_right (leb (block * blocks) (length store)) _ e))))
    (λ e. refl)
