-- What stands of a worker's session between its acts, and how much of its work is left.
use Rattle.std.specs.Prelude.{◌≡◌, ℕ, ◌-◌, ◌≤◌, ◌==◌, ◌||◌, ℤ, pos, ◌+ℤ◌, ◌-ℤ◌, ◌≤ℤ◌, int_lt, All, Bool, true, false, if◌then◌else◌, length, None, is_some, IfSome, IsTrue}
use Rattle.std.specs.Int.{int_min}
use Rattle.metrics_window.specs.Tallies.{all_frames, number_at}
use Rattle.metrics_window.specs.Window.{AllKnown}
use Rattle.pass_data.specs.Given.{Given}
use Rattle.pass_data.specs.declared.given.Header.{Header}
use Rattle.pyramid.specs.Known.{is_coding}
use Rattle.session_log.specs.Passes.{started}
use Rattle.session_log.specs.declared.entry.LogEntry.{LogEntry}
use Rattle.session_core.specs.Contexts.{Session}
use Rattle.session_core.specs.Moments.{plan_at}
use Rattle.session_core.specs.PassTurns.{is_done}
use Rattle.session_core.specs.Turns.{HaveBytes, frame_limit, held_back, needs_more_data, real_entries}

-- the most commands that a summary counts
abbrev pub last_command : ℕ
last_command = 2147483647

-- a command can be coded
abbrev pub IsKnown : {T O D S C : Type 0} → Session T O D S C → Type 0
IsKnown session = held_back session.enc session.moment ≡ None

-- a show isn't tried
abbrev pub IsUntried : LogEntry → Type 0
IsUntried entry = is_coding entry.command ≡ false → entry.trial ≡ false

-- the metrics of the frames that the summary counts and that aren't coded: no more are held
pub record IsLeft (given : Given) (commands : ℕ) (header : Header) : Type 0 where
  pub behind : pos commands ≤ℤ header.total
  pub total : header.total ≤ℤ pos last_command
  pub units : pos 1 ≤ℤ header.ntus
  pub left : all_frames given.left ≡ (header.total -ℤ pos commands)
  pub held : pos (length given.window.held) ≤ℤ all_frames given.left
  pub next : is_some given.next ≡ true → pos commands ≤ℤ (header.total -ℤ pos 1)
  -- a count of the summary's falls by one at most with each command
  pub counts : length given.left.counts ≡ 5
  pub low : (subtype : ℕ) → pos 0 ≤ℤ (number_at given.left.counts subtype +ℤ pos commands)
  pub high : (subtype : ℕ) → number_at given.left.counts subtype ≤ℤ pos last_command
  pub known : AllKnown given.window.held
  pub known_next : IfSome given.next (λ one. one.fti ≤ 4)

-- both passes of a session, where pass data is handed on or not
pub record ArePassesWell {T O D S C : Type 0} (handing : Bool) (session : Session T O D S C) : Type 0 where
  pub first : session.passes.first ≡ handing
  pub second : session.passes.second ≡ is_some session.passes.given.header
  pub controlled : handing ≡ true → IsTrue (int_lt (pos 0) session.enc.bitrate)
  pub counted : session.passes.second ≡ true → IsTrue (int_lt (pos 0) session.enc.bitrate)
  pub delay : pos 1 ≤ℤ (started session.enc session.passes).reservoir_delay
  pub left : IfSome session.passes.given.header (IsLeft session.passes.given session.moment.commands)

-- it hasn't failed, and so many commands were coded
pub record IsWell {T O D S C : Type 0} (handing : Bool) (coded : ℤ) (session : Session T O D S C) : Type 0 where
  pub unfailed : session.failure ≡ None
  pub within : session.moment.accepted ≤ frame_limit
  pub counted : coded ≡ int_min (pos session.moment.commands) (pos last_command)
  pub real : session.moment.commands ≡ length (real_entries session.moment.log)
  pub untried : All IsUntried session.moment.log
  pub bytes : HaveBytes session.moment.log
  pub passes : ArePassesWell handing session

-- no pass data waits to be handed on, but for that which a summary can't count
pub record IsPaid {T O D S C : Type 0} (handing : Bool) (session : Session T O D S C) : Type 0 where
  pub few : handing ≡ true → session.moment.commands ≤ last_command
  pub waits : handing ≡ true → is_some session.passes.emitted.waiting ≡ (session.moment.commands == last_command)

-- the same while that of the last command may wait
pub record IsOwed {T O D S C : Type 0} (handing : Bool) (session : Session T O D S C) : Type 0 where
  pub few : handing ≡ true → session.moment.commands ≤ last_command
  pub waits : handing ≡ true → session.moment.commands ≡ last_command → is_some session.passes.emitted.waiting ≡ true

-- no further command is known, or there is none
abbrev pub IsHeldBack : {T O D S C : Type 0} → Session T O D S C → Type 0
IsHeldBack session = IsTrue (needs_more_data session.enc session.moment || is_done session.moment)

-- as many frames, and as much to come
pub record IsSameInput {T O D S C : Type 0} (before now : Session T O D S C) : Type 0 where
  pub settings : now.enc ≡ before.enc
  pub accepted : now.moment.accepted ≡ before.moment.accepted
  pub flushed : now.moment.flushed ≡ before.moment.flushed

-- ---- how much is left

-- the commands of the plan that aren't coded
abbrev pub left_of : {T O D S C : Type 0} → Session T O D S C → ℕ
left_of session = length (plan_at session.enc session.moment) - session.moment.commands

-- the metrics for which there is room
abbrev pub room_of : {T O D S C : Type 0} → Session T O D S C → ℕ
room_of session =
    if session.passes.given.is_finite
    then session.passes.given.window.capacity - length session.passes.given.window.held
    else (if is_some session.passes.given.next then 0 else 1)

-- the frames that may still be accepted
abbrev pub frames_left : {T O D S C : Type 0} → Session T O D S C → ℕ
frames_left session = frame_limit - session.moment.accepted
