-- What contracts see of a queue, and what each answer of it means.
use Rattle.std.specs.Prelude.{ℕ, ◌≡◌, ◌+◌, ◌≤◌, nat_lt, if◌then◌else◌, List, [], ◌∷◌, ◌++◌, Option, option_map, IsSome, OnOk, OnErr, IfOk, IfErr, Result}
use Rattle.coding_base.specs.Faults.{last_count, Rose}
use Rattle.session_channels.specs.declared.counts.Counts.{Counts}
use Rattle.session_channels.specs.declared.errors.PutError.{PutError}
use Rattle.session_channels.specs.declared.errors.PutError.TheVariants.{Full, Closed, OutOfMemory}
use Rattle.session_channels.specs.declared.errors.TakeError.{TakeError}
use Rattle.session_channels.specs.declared.errors.TakeError.TheVariants.{Empty, Closed as Ended}

-- how many messages it may hold, where that is limited; how often each refusal was answered; how often `close` was
-- called on this object, and the counts of refusals as they stood at the last of these calls
pub record Queue : Type 0 where
  pub capacity : Option ℕ
  pub counts : Counts
  pub closes : ℕ
  pub at_close : Counts

abbrev pub no_counts : Counts
no_counts = record { full = 0; empty = 0; closed = 0; out_of_memory = 0 }

-- a queue that no call was made on
abbrev pub new_queue : Option ℕ → Queue
new_queue capacity = record { capacity = capacity; counts = no_counts; closes = 0; at_close = no_counts }

-- one more, up to the last value of a count
abbrev pub next_count : ℕ → ℕ
next_count count = if nat_lt count last_count then count + 1 else count

-- no count fell
pub record NoneFell (before now : Counts) : Type 0 where
  pub full : before.full ≤ now.full
  pub empty : before.empty ≤ now.empty
  pub closed : before.closed ≤ now.closed
  pub out_of_memory : before.out_of_memory ≤ now.out_of_memory

-- a turn of any call but `close`
pub record IsTurn (before now : Queue) : Type 0 where
  pub capacity : now.capacity ≡ before.capacity
  pub later : NoneFell before.counts now.counts
  pub closes : now.closes ≡ before.closes
  pub at_close : now.at_close ≡ before.at_close

-- a turn of `close`
pub record IsClosing (before now : Queue) : Type 0 where
  pub capacity : now.capacity ≡ before.capacity
  pub counts : now.counts ≡ before.counts
  pub closes : now.closes ≡ next_count before.closes
  pub at_close : now.at_close ≡ before.counts

-- the message that a refused put gives back
abbrev pub given_back : {M : Type 0} → PutError M → M
given_back (Full message) = message
given_back (Closed message) = message
given_back (OutOfMemory message) = message

-- a put is refused in this way only where the count of this answer rose; a queue that isn't limited is never full
abbrev pub HasPutCause : {M : Type 0} → Queue → Queue → PutError M → Type 0
HasPutCause before now (Full message) = IsSome before.capacity × Rose before.counts.full now.counts.full
HasPutCause before now (Closed message) = Rose before.counts.closed now.counts.closed
HasPutCause before now (OutOfMemory message) = Rose before.counts.out_of_memory now.counts.out_of_memory

abbrev pub HasTakeCause : Queue → Queue → TakeError → Type 0
HasTakeCause before now Empty = Rose before.counts.empty now.counts.empty
HasTakeCause before now Ended = Rose before.counts.closed now.counts.closed

-- contents with a message behind them, and with one before them, where they are told
abbrev pub behind : {M : Type 0} → M → Option (List M) → Option (List M)
behind message contents = option_map (λ held. held ++ message ∷ []) contents

abbrev pub before_all : {M : Type 0} → M → Option (List M) → Option (List M)
before_all message contents = option_map (λ held. message ∷ held) contents

-- a put, as every queue means it: one turn of the queue (`gives`) with this answer, its contents and its counts
pub record Puts {Q M : Type 0} (gives : Q → M → Result (Unit {0}) (PutError M) → Q → Type 0) (contents : Q → Option (List M)) (queue : Q → Queue) (before : Q) (message : M) (answer : Result (Unit {0}) (PutError M)) (now : Q) : Type 0 where
  pub one_turn : gives before message answer now
  pub put : OnOk answer (contents now ≡ behind message (contents before))
  pub kept : OnErr answer (contents now ≡ contents before)
  pub back : IfErr answer (λ error. given_back error ≡ message)
  pub cause : IfErr answer (λ error. HasPutCause (queue before) (queue now) error)
  pub turn : IsTurn (queue before) (queue now)

-- a take, as every queue means it
pub record Takes {Q M : Type 0} (gives : Q → Result M TakeError → Q → Type 0) (contents : Q → Option (List M)) (queue : Q → Queue) (before : Q) (answer : Result M TakeError) (now : Q) : Type 0 where
  pub one_turn : gives before answer now
  pub taken : IfOk answer (λ front. contents before ≡ before_all front (contents now))
  pub kept : OnErr answer (contents now ≡ contents before)
  pub cause : IfErr answer (λ error. HasTakeCause (queue before) (queue now) error)
  pub turn : IsTurn (queue before) (queue now)

-- a `close`, as every queue means it
pub record Closes {Q M : Type 0} (contents : Q → Option (List M)) (queue : Q → Queue) (before now : Q) : Type 0 where
  pub kept : contents now ≡ contents before
  pub closed : IsClosing (queue before) (queue now)
