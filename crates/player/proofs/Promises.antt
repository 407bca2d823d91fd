-- The ways out of a call. What an accepted call leaves of the record stands for what the plain player would be: each field is
-- changed alike, and a mark that is returned to is set. A declined call leaves the record, so the plain player too.
use mathlib.Core.Path.{◌≡◌, refl, sym, ap, subst, ◌∙◌}
use mathlib.Core.Bool.{Bool, true, false, cond, not}
use mathlib.Core.List.{List, [], ◌∷◌, map}
use mathlib.Core.Option
use mathlib.Core.Option.{Option, none}
use Prim.Native.Nat.{ℕ, zero, suc, ◌+◌, ◌≤◌, ◌<◌}
use native.Mathlib.Omega.{arith}
use lib.Dec.{T, eqb, leb}
use borrow.Author.Tests.{leb-false, le-leb, lt-leb}
use lib.ListN.{get_or, set, get_or-map}
use Rattle.refusals.specs.declared.Refusal.{Refusal}
use Rattle.refusals.specs.Refusals.{number_of}
use Rattle.refusals.specs.declared.ValueReply.{ValueReply}
use Rattle.refusals.specs.Replies.{value_reply}
use Rattle.refusals.proofs.Conditions.{or_else_none, cond_none}
use Rattle.refusals.proofs.Replies.{number_suc}
use Rattle.runs.specs.declared.Run.{Run}
use Rattle.runs.specs.Run.{run_refusal}
use Rattle.player.specs.declared.Mark.{Mark}
use Rattle.player.specs.declared.Player.{Player}
use Rattle.player.specs.PlainPlayer.{Call, Open, Forward, Back, SetMark, Return, Show, off_run, held_refusal}
use Rattle.player.specs.PlainPlayer.{return_refusal, call_refusal, moved_to, changed, unless_refused, player_after}
use Rattle.player.specs.PlainPlayer.{number_shown, answer}
use Rattle.player.specs.Player.{optional, plain_mark, plain_player, unset, set_at, fields_changed, fields_after}
use Rattle.player.specs.Player.{PlayerPromise, told}

-- a mark that is set anew is the one that is set
map_set : {A B : Type 0} (f : A → B) (l : List A) (i : ℕ) (x : A) → map f (set l i x) ≡ set (map f l) i (f x)
map_set f [] i x = refl
map_set f (y ∷ l) zero x = refl
map_set f (y ∷ l) (suc i) x = ap (λ (m : List _). f y ∷ m) (map_set f l i x)

-- where a mark is returned to, it is set
some_set : (run : Run) (n p held : ℕ) → return_refusal run (optional n p) ≡ 0 → Option.get_or (optional n p) held ≡ p
some_set run zero p held e = absurd (omega arith)
some_set run (suc n) p held e = refl

returned_to : (player : Player) (m : ℕ) (b : Bool) →
    return_refusal player.run (cond b none (get_or (map plain_mark player.marks) m none)) ≡ 0 →
    (get_or player.marks m unset).position ≡
    Option.get_or (cond b none (get_or (map plain_mark player.marks) m none)) player.position
returned_to player m true e = absurd (omega arith)
returned_to player m false e =
    let mark = get_or player.marks m unset in
    let is = get_or-map plain_mark player.marks m unset in
    sym
    (ap (λ (o : Option ℕ). Option.get_or o player.position) is
    ∙ some_set player.run mark.set mark.position player.position
    (subst (λ (o : Option ℕ). return_refusal player.run o ≡ 0) is e))

-- what an accepted call leaves
changes : (call : Call) (player : Player) → call_refusal call (plain_player player) ≡ 0 →
    plain_player (fields_changed call player) ≡ changed call (plain_player player)
changes (Open run) player e = refl
changes (Forward k) player e = refl
changes (Back k) player e = refl
changes (SetMark m) player e =
    ap (λ (l : List (Option ℕ)). record { run = player.run; position = player.position; marks = l })
    (map_set plain_mark player.marks m (set_at player.position))
changes (Return m) player e =
    ap (moved_to (plain_player player))
    (returned_to player m (leb 4 m) (or_else_none (held_refusal (plain_player player)) _ e).1)
changes Show player e = refl

-- and any call: what stands in the record after it is what the plain player would be
pub plain_after : (call : Call) (player : Player) → plain_player (fields_after call player) ≡ player_after call (plain_player player)
plain_after call player = by_refusal (call_refusal call (plain_player player)) refl
  where
    by_refusal : (n : ℕ) → call_refusal call (plain_player player) ≡ n →
        plain_player (unless_refused n player (fields_changed call player)) ≡
        unless_refused n (plain_player player) (changed call (plain_player player))
    by_refusal zero e = changes call player e
    by_refusal (suc n) e = refl

-- so the promise of a call can be met on any record
pub can_be_met : (call : Call) (player : Player) → PlayerPromise call player (fields_after call player) (answer call (plain_player player))
can_be_met call player = record { answers = refl; fields = refl; plain = plain_after call player }

-- The ways out of a call that only tells whether it was accepted.
told_reply : (n : ℕ) → told n ≡ value_reply n 0
told_reply zero = refl
told_reply (suc n) = refl

module _ (call : Call) (before : Player) (silent : number_shown call (plain_player before) ≡ 0) where
  promised : {after : Player} {n : ℕ} → n ≡ call_refusal call (plain_player before) → after ≡ fields_after call before →
      PlayerPromise call before after (told n)
  promised e w =
      record {
        answers = ap told e ∙ told_reply _ ∙ ap (value_reply (call_refusal call (plain_player before))) (sym silent);
        fields = w;
        plain = ap plain_player w ∙ plain_after call before;
      }

  pub declined_promise : (x : Refusal) → number_of x ≡ call_refusal call (plain_player before) →
      PlayerPromise call before before (told (number_of x))
  declined_promise x e =
      let k = number_suc x in
      promised e (ap (λ (n : ℕ). unless_refused n before (fields_changed call before)) (sym k.1 ∙ e))

  pub accepted_promise : {after : Player} → call_refusal call (plain_player before) ≡ 0 → after ≡ fields_changed call before →
      PlayerPromise call before after (told 0)
  accepted_promise z e =
      promised (sym z) (e ∙ ap (λ (n : ℕ). unless_refused n before (fields_changed call before)) (sym z))

-- a refused one keeps the record
reply_refusal : (n m v : ℕ) → told n ≡ value_reply m v → n ≡ m
reply_refusal n zero v e = ap (λ (r : ValueReply). r.refusal) e
reply_refusal n (suc m) v e = ap (λ (r : ValueReply). r.refusal) e

pub refused_keeps : (call : Call) (before after : Player) (n : ℕ) → PlayerPromise call before after (told n) → T (not (eqb n 0)) → after ≡ before
refused_keeps call before after n p s =
    p.fields
    ∙ ap (λ (m : ℕ). unless_refused m before (fields_changed call before))
    (sym (reply_refusal n (call_refusal call (plain_player before)) (number_shown call (plain_player before)) p.answers))
    ∙ other n s
  where
    other : (m : ℕ) → T (not (eqb m 0)) → unless_refused m before (fields_changed call before) ≡ before
    other zero z = absurd z
    other (suc m) z = refl

-- What a record holds that passes the check which comes first.
pub record Held (player : Player) : Type 0 where
  pub passed : held_refusal (plain_player player) ≡ 0
  pub run : run_refusal player.run ≡ 0
  pub below : leb player.run.count player.position ≡ false
  pub on : player.position < player.run.count

pub held_passed : (player : Player) → held_refusal (plain_player player) ≡ 0 → Held player
held_passed player e =
    let parts = or_else_none (run_refusal player.run) _ e in
    let below = (cond_none (leb player.run.count player.position) 11 0 parts.1).0 in
    record { passed = e; run = parts.0; below = below; on = leb-false player.run.count player.position below }

-- The refusals behind that check.
module _ {player : Player} (held : Held player) where
  pub forward_off : (k : ℕ) → player.run.count ≤ player.position + k → 12 ≡ call_refusal (Forward k) (plain_player player)
  forward_off k h = simp (held.run, held.below, le-leb player.run.count (player.position + k) h)

  pub forward_on : (k : ℕ) → player.position + k < player.run.count → call_refusal (Forward k) (plain_player player) ≡ 0
  forward_on k h = simp (held.run, held.below, lt-leb player.run.count (player.position + k) h)

  pub back_off : (k : ℕ) → player.position < k → 12 ≡ call_refusal (Back k) (plain_player player)
  back_off k h = simp (held.run, held.below, le-leb (suc player.position) k h)

  pub back_on : (k : ℕ) → k ≤ player.position → call_refusal (Back k) (plain_player player) ≡ 0
  back_on k h = simp (held.run, held.below, lt-leb (suc player.position) k (omega arith))

  pub mark_above : (m : ℕ) → 4 ≤ m → 13 ≡ call_refusal (SetMark m) (plain_player player)
  mark_above m h = simp (held.run, held.below, le-leb 4 m h)

  pub mark_taken : (m : ℕ) → m < 4 → call_refusal (SetMark m) (plain_player player) ≡ 0
  mark_taken m h = simp (held.run, held.below, lt-leb 4 m h)

  pub return_above : (m : ℕ) → 4 ≤ m → 13 ≡ call_refusal (Return m) (plain_player player)
  return_above m h = simp (held.run, held.below, le-leb 4 m h)

  -- of a mark that there is, what it holds decides
  module _ (m : ℕ) (h : m < 4) {mark : Mark} (is : mark ≡ get_or player.marks m unset) where
    by_mark : call_refusal (Return m) (plain_player player) ≡ return_refusal player.run (optional mark.set mark.position)
    by_mark =
        simp (held.run, held.below, lt-leb 4 m h)
        (ap (return_refusal player.run) (get_or-map plain_mark player.marks m unset ∙ sym (ap plain_mark is)))

    pub return_unset : mark.set ≡ 0 → 13 ≡ call_refusal (Return m) (plain_player player)
    return_unset z = sym (by_mark ∙ ap (λ (n : ℕ). return_refusal player.run (optional n mark.position)) z)

    set_mark : (n : ℕ) → (n ≡ 0 → ⊥) → return_refusal player.run (optional n mark.position) ≡ off_run player.run mark.position
    set_mark zero s = absurd (s refl)
    set_mark (suc n) s = refl

    pub return_off : (mark.set ≡ 0 → ⊥) → player.run.count ≤ mark.position → 12 ≡ call_refusal (Return m) (plain_player player)
    return_off s off = sym (by_mark ∙ set_mark _ s ∙ ap (λ (b : Bool). cond b 12 0) (le-leb _ _ off))

    pub return_on : (mark.set ≡ 0 → ⊥) → mark.position < player.run.count → call_refusal (Return m) (plain_player player) ≡ 0
    return_on s on = by_mark ∙ set_mark _ s ∙ ap (λ (b : Bool). cond b 12 0) (lt-leb _ _ on)

-- Show changes nothing.
pub shown_promise : (player : Player) {reply : ValueReply} → reply ≡ answer Show (plain_player player) → PlayerPromise Show player player reply
shown_promise player e =
    record {
      answers = e;
      fields = unchanged (call_refusal Show (plain_player player));
      plain = unchanged (call_refusal Show (plain_player player));
    }
  where
    unchanged : {A : Type 0} {x : A} (n : ℕ) → x ≡ unless_refused n x x
    unchanged zero = refl
    unchanged (suc n) = refl
