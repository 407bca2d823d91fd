-- A walk along a chain: whether a stretch of the bytes stands at one of its links is decided at the link looked at, or by the
-- links behind it.
use Rattle.std.proofs.Common.{◌≡◌, ℕ, suc, ◌+◌, ◌-◌, ◌/◌, ◌<◌, ◌≤◌, Bool, true, false, ◌||◌, nat_eq, List, length, get_or, take, drop, sym, ap, ◌∙◌, arith, length-drop, length-take-le}
use Rattle.fields.specs.Line.{same_bytes}
use Rattle.chains.specs.Chains.{stands, stands_among, Falling}
use Rattle.std.specs.Cmp.Lexicographic.{pointwise}
use Rattle.chains.proofs.Comparing.{compared}
use Rattle.chains.proofs.Linking.{chain_none, chain_step}

-- the links from `link` on decide of the n bytes at `at`
pub record Walk (bytes next : List ℕ) (at n first link : ℕ) : Type 0 where
  pub below : link ≤ at
  pub left : stands_among bytes next (take n (drop at bytes)) first ≡ stands_among bytes next (take n (drop at bytes)) link

module _ {bytes next : List ℕ} {at n first link : ℕ} (w : Walk bytes next at n first link) where
  module _ {same : Bool} {start : ℕ} (f : Falling next) (within : at + n ≤ length bytes) (some : (0 < link) × (start ≡ link - 1))
      (told : same ≡ pointwise nat_eq (take (start + n - start) (drop start bytes)) (take (at + n - at) (drop at bytes))) where
    -- the link looked at, and those behind it
    here : same ≡ stands bytes (take n (drop at bytes)) start
    here =
        compared bytes start at n told
        ∙ ap (λ (k : ℕ). same_bytes (take k (drop start bytes)) (take n (drop at bytes)))
        (sym (length-take-le n (drop at bytes) (simp length-drop (omega arith))))

    decided : stands_among bytes next (take n (drop at bytes)) first
        ≡ same || stands_among bytes next (take n (drop at bytes)) (get_or next (start / 12) 0)
    decided =
        let part = take n (drop at bytes) in
        let e : link ≡ suc start = omega arith in
        w.left
        ∙ ap (stands_among bytes next part) e
        ∙ chain_step bytes part f start
        ∙ ap (λ (b : Bool). b || stands_among bytes next part (get_or next (start / 12) 0)) (sym here)

    pub walk_here : same ≡ true → true ≡ stands_among bytes next (take n (drop at bytes)) first
    walk_here e = sym (decided ∙ rw e)

    -- each link is below the one before it
    pub walk_next : same ≡ false → Walk bytes next at n first (get_or next (start / 12) 0)
    walk_next e = record { below = omega (arith, w.below, f.law (start / 12)); left = decided ∙ rw e }

  pub walk_end : (0 < link → ⊥) → false ≡ stands_among bytes next (take n (drop at bytes)) first
  walk_end none =
      let part = take n (drop at bytes) in
      let e : link ≡ 0 = grind arith in
      sym (w.left ∙ ap (stands_among bytes next part) e ∙ chain_none bytes next part)
