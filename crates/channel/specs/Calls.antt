-- What a call that changes a channel promises, of the channel before (c) and after (c') and of the answer (r).
use Rattle.std.specs.Prelude.{◌≡◌, ℕ, Result}
use Rattle.channel.specs.declared.Letter.{Letter}
use Rattle.channel.specs.declared.Refusal.{Refusal}
use Rattle.channel.specs.Waits.{Waits, head_of, put_of, after_put, after_take}

module _ {C : Type 0} (sound : C → Type 0) (waiting : C → Waits) (room : C → ℕ) where
  pub record Put (c c' : C) (from to : ℕ) (l : Letter) (r : Result (Unit {0}) Refusal) : Type 0 where
    pub stays : sound c'
    pub limit : room c' ≡ room c
    pub answer : r ≡ put_of (waiting c) (room c) from to
    pub after : waiting c' ≡ after_put (waiting c) (room c) from to l

  pub record Take (c c' : C) (from to : ℕ) (r : Result Letter Refusal) : Type 0 where
    pub stays : sound c'
    pub limit : room c' ≡ room c
    pub answer : r ≡ head_of (waiting c) from to
    pub after : waiting c' ≡ after_take (waiting c) from to
