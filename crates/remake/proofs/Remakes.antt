-- Remaking: a turn of the loop adds one number to those at the buffer's front, and the ways out of the call.
use Rattle.std.specs.Prelude.{Ok, Err}
use mathlib.Core.Path.{◌≡◌, refl, sym, ap, ap₂, ◌∙◌}
use mathlib.Core.List.{List, [], ◌∷◌, ◌++◌}
use Prim.Native.Nat.{ℕ, zero, suc, ◌+◌, ◌≤◌, ◌<◌}
use native.Mathlib.Nat.{add-zero}
use native.Mathlib.Numerals.{add-one}
use native.Mathlib.Omega.{arith}
use lib.ListN.{length, take, drop, set, length-set, take-append-drop}
use Rattle.std.proofs.lemmas.List.{length-take-le}
use Rattle.std.proofs.Math.ListN.{drop_of_length-le}
use Rattle.std.proofs.Common.{append-nil}
use lib.Seq.{take-suc-set, drop-set-lt, drop-drop}
use Rattle.refusals.specs.declared.Refusal.{Refusal}
use Rattle.generator.specs.Recurrence.{step, element}
use Rattle.refusals.specs.Refusals.{number_of}
use Rattle.refusals.specs.Replies.{plain_value}
use Rattle.generator.specs.Kinds.{IsElement}
use Rattle.generator.proofs.Elements.{element_next}
use Rattle.refusals.proofs.Replies.{number_suc, value_refused, value_given}
use Rattle.runs.specs.declared.Run.{Run}
use Rattle.runs.specs.Run.{shows, run_refusal}
use Rattle.remake.specs.Remake.{shown_from, remade_count, remade_front, RemakePromise}

-- the last of n + 1 positions
shown_last : (run : Run) (p n : ℕ) → shown_from run p (suc n) ≡ shown_from run p n ++ (shows run (p + n) ∷ [])
unfolding shown_from
shown_last run p zero = ap (λ (q : ℕ). shows run q ∷ []) (sym (add-zero p))
shown_last run p (suc n) =
    ap (λ (l : List ℕ). shows run p ∷ l)
    (shown_last run (suc p) n
    ∙ let q : suc p + n ≡ p + suc n = omega arith in ap (λ (j : ℕ). shown_from run (suc p) n ++ (shows run j ∷ [])) q)

-- the next position shows the number one step on
shows_next : (run : Run) (p k : ℕ) → step run.generator (shows run (p + k)) ≡ shows run (p + (k + 1))
unfolding shows
shows_next run p k =
    let q : suc (run.first + (p + k)) ≡ run.first + (p + (k + 1)) = omega arith in
    sym (element_next run.generator (run.first + (p + k))) ∙ ap (element run.generator) q

-- The buffer with k numbers at its front, and the number that comes next.
pub record RemadeSoFar (run : Run) (p : ℕ) (before buffer : List ℕ) (number k : ℕ) : Type 0 where
  pub size : length buffer ≡ length before
  pub front : take k buffer ≡ shown_from run p k
  pub behind : drop k buffer ≡ drop k before
  pub next : number ≡ shows run (p + k)

pub remake_start : (run : Run) (p : ℕ) (before : List ℕ) {number : ℕ} → number ≡ shows run p → RemadeSoFar run p before before number 0
unfolding shown_from
remake_start run p before e =
    record { size = refl; front = refl; behind = refl; next = e ∙ ap (shows run) (sym (add-zero p)) }

module _ {run : Run} {p : ℕ} {before buffer : List ℕ} {number k : ℕ} (s : RemadeSoFar run p before buffer number k) where
  pub is_element : IsElement run.generator number
  unfolding shows
  is_element = record { index = run.first + (p + k); yields = sym s.next }

  pub remake_next : {later : ℕ} → k < length buffer → later ≡ step run.generator number →
      RemadeSoFar run p before (set buffer k number) later (k + 1)
  remake_next {later} l e =
      record {
        size = length-set buffer k number ∙ s.size;
        front =
            rw (add-one k)
            (take-suc-set buffer k number l
            ∙ ap₂ (λ (x : List ℕ) (v : ℕ). x ++ (v ∷ [])) s.front s.next
            ∙ sym (shown_last run p k));
        behind =
            drop-set-lt (k + 1) buffer k number (omega arith)
            ∙ sym (drop-drop 1 k buffer)
            ∙ ap (drop 1) s.behind
            ∙ drop-drop 1 k before;
        next = e ∙ ap (step run.generator) s.next ∙ shows_next run p k;
      }

  pub remake_end : {n : ℕ} → k ≡ n → buffer ≡ remade_front run p n before
  remake_end {n} e =
      sym (take-append-drop k buffer)
      ∙ ap₂ (λ (x y : List ℕ). x ++ y) s.front s.behind
      ∙ ap (λ (j : ℕ). remade_front run p j before) e

-- and of the first n places of a buffer, what stands behind them is kept
pub remake_whole : {run : Run} {p n k number : ℕ} {items : List ℕ} (buffer : List ℕ) → n ≤ length buffer →
    RemadeSoFar run p (take n buffer) items number k → length (take n buffer) ≤ k → k ≤ length (take n buffer) →
    items ++ drop n buffer ≡ remade_front run p n buffer
remake_whole {run} {p} {n} {k} {items = items} buffer fits s least most =
    ap (λ (x : List ℕ). x ++ drop n buffer) (remake_end s k_is ∙ ap (λ (x : List ℕ). shown_from run p n ++ x) nothing ∙ append-nil (shown_from run p n))
  where
    size : length (take n buffer) ≡ n
    size = length-take-le n buffer fits

    k_is : k ≡ n
    k_is = omega (arith, size, least, most)

    nothing : drop n (take n buffer) ≡ []
    nothing = drop_of_length-le (take n buffer) (omega (arith, size))

-- The ways out of the call.
pub remake_refused : (run : Run) (p : ℕ) (buffer : List ℕ) (x : Refusal) → number_of x ≡ run_refusal run →
    RemakePromise run p buffer buffer (plain_value (Err x))
remake_refused run p buffer x e =
    record { equals = value_refused x _ e; buffer = let k = number_suc x in rw (← e, k.1) }

module _ (run : Run) (p : ℕ) {before : List ℕ} (z : run_refusal run ≡ 0) where
  pub remake_done : {after : List ℕ} {n : ℕ} → n ≡ remade_count run p (length before) → after ≡ remade_front run p n before →
      RemakePromise run p before after (plain_value (Ok n))
  remake_done {after} {n} e w =
      record { equals = value_given _ z e; buffer = rw z (w ∙ ap (λ (j : ℕ). remade_front run p j before) e) }

  pub remake_none : run.count ≤ p → RemakePromise run p before before (plain_value (Ok 0))
  unfolding shown_from
  remake_none h = remake_done (omega arith) refl
