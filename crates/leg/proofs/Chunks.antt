-- The steps of a leg as arrays of 8 bytes: the list of them that std cuts is the list of the leg's steps.
-- Assumes nothing.
use Rattle.std.proofs.Common.{◌≡◌, ℕ, zero, suc, ◌/◌, List, ◌<◌, length, get_or, take, drop, [], ◌∷◌, arith, refl, ap, ◌∙◌}
use Rattle.std.specs.Simd.{first_chunks}
use Rattle.step_list.specs.Steps.{steps_in, steps_of}
use Rattle.step_list.specs.Inner.{step_at}
use Rattle.step_list.proofs.Steps.{steps_count, step_of_law}

chunks_in : (n : ℕ) (bytes : List ℕ) → first_chunks 8 n bytes ≡ steps_in n bytes
unfolding steps_in
chunks_in zero bytes = refl
chunks_in (suc n) bytes = ap (λ (rest : List (List ℕ)). take 8 bytes ∷ rest) (chunks_in n (drop 8 bytes))

pub chunks_are : (bytes : List ℕ) → first_chunks 8 (length bytes / 8) bytes ≡ steps_of bytes
chunks_are bytes = chunks_in (length bytes / 8) bytes

-- a step by its place in that list
pub chunk_at : (bytes : List ℕ) (k : ℕ) → k < length bytes / 8 → {chunks : List (List ℕ)} → chunks ≡ first_chunks 8 (length bytes / 8) bytes
    → get_or chunks k [] ≡ step_at bytes k
chunk_at bytes k h e = ap (λ (steps : List (List ℕ)). get_or steps k []) (e ∙ chunks_are bytes) ∙ step_of_law bytes k h

-- and of the place as the loop over the list knows it
pub chunk_here : (bytes : List ℕ) (k : ℕ) {chunks : List (List ℕ)} → chunks ≡ first_chunks 8 (length bytes / 8) bytes → k < length chunks
    → (k < length bytes / 8) × (get_or chunks k [] ≡ step_at bytes k)
chunk_here bytes k e h =
    let n = ap length (e ∙ chunks_are bytes) ∙ steps_count bytes in
    let inside : k < length bytes / 8 = omega (arith, n) in
    (inside, chunk_at bytes k inside e)
