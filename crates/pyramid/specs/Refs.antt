-- Reference slots as a list.
use Rattle.std.specs.Prelude.{◌≡◌, ℕ, List, [], ◌∷◌, refl}
use Rattle.std.proofs.Common.{ap}
use Rattle.pyramid.specs.declared.refs.Slots.{Slots}
use Rattle.pyramid.specs.declared.refs.Slots.TheVariants.{Zero, One, Two, Three}
use Rattle.pyramid.specs.declared.refs.Refs.TheInside.{Inside}

abbrev pub slots_listed : Slots → List ℕ
slots_listed Zero = []
slots_listed (One a) = a ∷ []
slots_listed (Two a b) = a ∷ b ∷ []
slots_listed (Three a b c) = a ∷ b ∷ c ∷ []

-- the slots of a list of at most three
abbrev pub slots_of : List ℕ → Slots
slots_of [] = Zero
slots_of (a ∷ []) = One a
slots_of (a ∷ b ∷ []) = Two a b
slots_of (a ∷ b ∷ c ∷ _) = Three a b c

pub slots_of-listed : (slots : Slots) → slots_of (slots_listed slots) ≡ slots
slots_of-listed Zero = refl
slots_of-listed (One a) = refl
slots_of-listed (Two a b) = refl
slots_of-listed (Three a b c) = refl

pub slots_of-slots_listed : (a : Inside) → record { slots = slots_of (slots_listed a.slots) } ≡ a
slots_of-slots_listed a = let again : Slots → Inside = λ slots. record { slots = slots } in ap again (slots_of-listed a.slots)
