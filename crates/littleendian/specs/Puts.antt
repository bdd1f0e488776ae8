-- What puts come to, one after another.
-- Assumes nothing.
use Rattle.std.specs.Prelude.{ℕ, ◌/◌, ◌%◌, ◌≡◌, List}
use Rattle.std.proofs.Common.{ap, ◌∙◌}
use Rattle.copies.specs.Parts.{zeros, put_at}
use Rattle.littleendian.specs.Numbers.{bytes_of}
use Rattle.littleendian.specs.Back.{halves}

-- a put into what is known
pub then : (k : ℕ) (y : List ℕ) {o p x : List ℕ} → o ≡ x → p ≡ put_at o k y → p ≡ put_at x k y
then k y f e = e ∙ ap (λ (l : List ℕ). put_at l k y) f

-- a number of eight bytes, as its two halves
pub eight_is : (y : ℕ) {p q : List ℕ} → p ≡ put_at (zeros 8) 0 (bytes_of 4 (y % 4294967296)) → q ≡ put_at p 4 (bytes_of 4 (y / 4294967296)) → q ≡ bytes_of 8 y
unfolding put_at
eight_is y e f = then 4 (bytes_of 4 (y / 4294967296)) e f ∙ halves y
