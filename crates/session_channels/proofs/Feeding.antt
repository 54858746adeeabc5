-- The stretch in which metrics are taken from their queue and given, while they are needed.
use Rattle.std.proofs.Common.{◌≡◌, ℤ, ◌≤◌, Bool, List, [], ◌∷◌, ◌++◌, Option, Some, None, refl, sym, ap₂, ◌∙◌, subst}
use Rattle.std.specs.Option.{option_map}
use Rattle.av1_settings.specs.declared.encoder.EncoderConfig.{EncoderConfig}
use Rattle.pass_data.specs.declared.rc_data.RcData.{RcData}
use Rattle.session_core.specs.Contexts.{Session}
use Rattle.session_core.specs.Moments.{Moment}
use Rattle.session_core.specs.PassCalls.{required_of}
use Rattle.session_core.specs.Turns.{held_back}
use Rattle.session_channels.specs.declared.fault.ChannelFault.{ChannelFault}
use Rattle.session_channels.specs.declared.fault.ChannelFault.TheVariants.{PassDataMissing}
use Rattle.session_channels.specs.Acts.{Ears, Hand, IsOpen, Point}
use Rattle.session_channels.specs.Courses.{SaidClosed, Stopped, TakesAll, Turns, Went, untouched}
use Rattle.session_channels.specs.Queues.{IsTurn, Queue, before_all}
use Rattle.session_channels.specs.Wells.{IsKnown, IsPaid, IsWell}
use Rattle.session_channels.proofs.Given.{taking}
use Rattle.session_channels.proofs.Joins.{Compose, closed-after, nothing-join, stopped-join, takes-join, takes-none, went-join, went-none}

-- what is known stays so while the moment does
pub known-same : {T O D S C : Type 0} (before now : Session T O D S C) → now.moment ≡ before.moment → now.enc ≡ before.enc → IsKnown before → IsKnown now
known-same {T} {O} before now moment settings known =
    ap₂ (λ (enc : EncoderConfig) (m : Moment T O). held_back enc m) settings moment ∙ known

none-taken : {M : Type 0} (held : Option (List M)) → held ≡ option_map (λ l. [] ++ l) held
none-taken None = refl
none-taken (Some l) = refl

module _ {Q : Type 0} (contents : Q → Option (List RcData)) (queue : Q → Queue) where
  took-one : (a b : Q) (message : RcData) → contents a ≡ before_all message (contents b) → IsTurn (queue a) (queue b) → TakesAll contents queue a b (message ∷ [])
  took-one a b message taken turn = record { taken = taken; turn = turn }

module _ {T O Q : Type 0} (contents : Q → Option (List RcData)) (queue : Q → Queue) where
  -- what a stretch owes to the queue of pass data alone
  abbrev pub fed : Q → Q → Turns T O
  fed before now = record untouched {
    metrics = TakesAll contents queue before now;
    missing = SaidClosed (queue before) (queue now);
  }

  compose-taking : (a b c : Q) (message : RcData) → contents b ≡ before_all message (contents c) → IsTurn (queue b) (queue c) → Compose (fed a b) (taking message) (fed a c)
  compose-taking a b c message taken turn = record {
    frames = λ xs ys one two. nothing-join xs ys one two;
    packets = λ xs ys one two. nothing-join xs ys one two;
    metrics = λ xs ys one is. subst (λ (l : List RcData). TakesAll contents queue a c (xs ++ l)) (sym is)
        (takes-join contents queue a b c xs (message ∷ []) one (took-one contents queue b c message taken turn));
    handed = λ xs ys one two. nothing-join xs ys one two;
    missing = λ no. absurd no;
    severed = λ no. no;
  }

  compose-closing : (a b c : Q) → IsTurn (queue a) (queue b) → Compose (fed a b) (fed b c) (fed a c)
  compose-closing a b c turn = record {
    frames = λ xs ys one two. nothing-join xs ys one two;
    packets = λ xs ys one two. nothing-join xs ys one two;
    metrics = λ xs ys one two. takes-join contents queue a b c xs ys one two;
    handed = λ xs ys one two. nothing-join xs ys one two;
    missing = λ closed. closed-after (queue a) (queue b) (queue c) turn closed;
    severed = λ no. no;
  }

  module _ {D S C : Type 0} (ears : Ears T D S C) (handing : Bool) where
    pub fed-none : (at : Q) (point : Point T O D S C) → Went ears handing (fed at at) point point
    fed-none at point = went-none ears handing (fed at at) point refl refl (takes-none contents queue at) refl

    -- one more message, which is accepted
    pub fed-more : (a b c : Q) (message : RcData) (p q r : Point T O D S C) → contents b ≡ before_all message (contents c) → IsTurn (queue b) (queue c)
        → Went ears handing (fed a b) p q → Went ears handing (taking message) q r → Went ears handing (fed a c) p r
    fed-more a b c message p q r taken turn one two =
        went-join ears handing (fed a b) (taking message) (fed a c) (compose-taking a b c message taken turn) p q r one two

    -- or isn't
    pub fed-stopped : (a b c : Q) (message : RcData) (p q : Point T O D S C) (now : Session T O D S C) (fault : ChannelFault) → contents b ≡ before_all message (contents c) → IsTurn (queue b) (queue c)
        → Went ears handing (fed a b) p q → Stopped ears handing (taking message) q now fault → Stopped ears handing (fed a c) p now fault
    fed-stopped a b c message p q now fault taken turn one two =
        stopped-join ears handing (fed a b) (taking message) (fed a c) (compose-taking a b c message taken turn) p q now fault one two

    closed-here : (b c : Q) (hand : Hand T O) (session : Session T O D S C) → contents c ≡ contents b → IsTurn (queue b) (queue c) → SaidClosed (queue b) (queue c)
        → IsOpen hand → IsKnown session → 1 ≤ required_of session → Stopped ears handing (fed b c) (record { hand = hand; session = session }) session PassDataMissing
    closed-here b c hand session kept turn closed is_open known needed = record {
      acts = [];
      last = record { hand = hand; session = session };
      run = refl;
      taken = [];
      cause = (refl, record { due = record { coding = is_open; known = known; needed = needed }; closed = closed; same = refl });
      frames = refl;
      packets = refl;
      metrics = record { taken = sym kept ∙ none-taken (contents c); turn = turn };
      handed = refl;
    }

    -- the queue says that it is closed
    pub fed-closed : (a b c : Q) (p : Point T O D S C) (hand : Hand T O) (session : Session T O D S C) → contents c ≡ contents b → IsTurn (queue b) (queue c) → SaidClosed (queue b) (queue c)
        → IsOpen hand → IsKnown session → 1 ≤ required_of session → Went ears handing (fed a b) p (record { hand = hand; session = session })
        → Stopped ears handing (fed a c) p session PassDataMissing
    fed-closed a b c p hand session kept turn closed is_open known needed one =
        stopped-join ears handing (fed a b) (fed b c) (fed a c) (compose-closing a b c one.metrics.turn) p (record { hand = hand; session = session }) session PassDataMissing
        one (closed-here b c hand session kept turn closed is_open known needed)

    -- ---- the loop

    -- so far each message taken was accepted
    pub record IsFed (coded : ℤ) (a b : Q) (before now : Session T O D S C) : Type 0 where
      pub drove : (hand : Hand T O) → IsOpen hand → Went ears handing (fed a b) (record { hand = hand; session = before }) (record { hand = hand; session = now })
      pub well : IsWell handing coded now
      pub paid : IsPaid handing now
      pub known : IsKnown now
      pub moment : now.moment ≡ before.moment
      pub settings : now.enc ≡ before.enc

    pub begins-fed : (coded : ℤ) (at : Q) (session : Session T O D S C) → IsWell handing coded session → IsPaid handing session → IsKnown session → IsFed coded at at session session
    begins-fed coded at session well paid known = record {
      drove = λ hand is_open. fed-none at (record { hand = hand; session = session });
      well = well;
      paid = paid;
      known = known;
      moment = refl;
      settings = refl;
    }

    pub more-fed : (coded : ℤ) (a b c : Q) (message : RcData) (before now next : Session T O D S C) → IsFed coded a b before now
        → contents b ≡ before_all message (contents c) → IsTurn (queue b) (queue c)
        → ((hand : Hand T O) → IsOpen hand → Went ears handing (taking message) (record { hand = hand; session = now }) (record { hand = hand; session = next }))
        → IsWell handing coded next → IsPaid handing next → next.moment ≡ now.moment → next.enc ≡ now.enc → IsFed coded a c before next
    more-fed coded a b c message before now next one taken turn goes well paid moment settings = record {
      drove = λ hand is_open.
          fed-more a b c message (record { hand = hand; session = before }) (record { hand = hand; session = now }) (record { hand = hand; session = next })
          taken turn (one.drove hand is_open) (goes hand is_open);
      well = well;
      paid = paid;
      known = known-same now next moment settings one.known;
      moment = moment ∙ one.moment;
      settings = settings ∙ one.settings;
    }

    pub stops-fed : (coded : ℤ) (a b c : Q) (message : RcData) (before now next : Session T O D S C) (fault : ChannelFault) → IsFed coded a b before now
        → contents b ≡ before_all message (contents c) → IsTurn (queue b) (queue c)
        → ((hand : Hand T O) → IsOpen hand → Stopped ears handing (taking message) (record { hand = hand; session = now }) next fault)
        → (hand : Hand T O) → IsOpen hand → Stopped ears handing (fed a c) (record { hand = hand; session = before }) next fault
    stops-fed coded a b c message before now next fault one taken turn stops hand is_open =
        fed-stopped a b c message (record { hand = hand; session = before }) (record { hand = hand; session = now }) next fault
        taken turn (one.drove hand is_open) (stops hand is_open)

    pub closes-fed : (coded : ℤ) (a b c : Q) (before now : Session T O D S C) → IsFed coded a b before now
        → contents c ≡ contents b → IsTurn (queue b) (queue c) → SaidClosed (queue b) (queue c) → 1 ≤ required_of now
        → (hand : Hand T O) → IsOpen hand → Stopped ears handing (fed a c) (record { hand = hand; session = before }) now PassDataMissing
    closes-fed coded a b c before now one kept turn closed needed hand is_open =
        fed-closed a b c (record { hand = hand; session = before }) hand now kept turn closed is_open one.known needed (one.drove hand is_open)
