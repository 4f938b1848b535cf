-- What a pass knows, its numbers and its share of the turn.
use Rattle.std.specs.Prelude.{◌≡◌, ℕ, ◌+◌, ◌-◌, ◌*◌, ◌^◌, ◌≤◌, ◌==◌, ◌⊎◌, max, nat_lt, if◌then◌else◌, false, true, List, [], ◌∷◌, ◌++◌, length, All}
use Rattle.std.specs.List.{filter}
use Rattle.kb_turn.specs.declared.view.View.{View}

-- k is one of these numbers
abbrev pub Among : ℕ → List ℕ → Type 0
Among k [] = ⊥
Among k (x ∷ xs) = (k ≡ x) ⊎ Among k xs

-- the entries that carry the number k
abbrev pub of : {E : Type 0} → (E → ℕ) → ℕ → List E → List E
of number_of k xs = filter (λ e. number_of e == k) xs

module _ {E : Type 0} where
  -- its own number, and those of the passes that it took in. No entry carries the number 0
  abbrev pub numbers_of : View E → List ℕ
  numbers_of v = v.number ∷ v.gone

  -- the share of a view, where a whole share is 2 ^ e
  abbrev pub weight : ℕ → View E → ℕ
  weight e v = v.parts * 2 ^ (e - v.halvings)

  abbrev pub total : ℕ → List (View E) → ℕ
  total e [] = 0
  total e (v ∷ vs) = weight e v + total e vs

  -- the shares of these views are n whole ones
  abbrev pub Weighed : ℕ → List (View E) → Type 0
  Weighed n vs = (e : ℕ) × All (λ v. v.halvings ≤ e) vs × (total e vs ≡ n * 2 ^ e)

  -- the first view, which hands out the numbers, has all n shares and has seen these entries
  abbrev pub maker : List E → ℕ → View E
  maker xs n = record { seen = xs; holds = false; number = 0; gone = []; next = 1; loaded = 0; kept = []; missed = 0; parts = n; halvings = 0 }

  -- a pass with the number n, which has seen the entries that the turn began with
  abbrev pub newcomer : List E → ℕ → View E
  newcomer xs n = record { seen = xs; holds = false; number = n; gone = []; next = 0; loaded = 0; kept = []; missed = 0; parts = 1; halvings = 0 }

  -- a view that has seen the same, with no number and no share
  abbrev pub watching : View E → View E
  watching v = record { seen = v.seen; holds = false; number = 0; gone = []; next = 0; loaded = v.loaded; kept = []; missed = 0; parts = 0; halvings = 0 }

  -- what is left of a view that was joined to another
  abbrev pub spent : View E
  spent = record { seen = []; holds = false; number = 0; gone = []; next = 0; loaded = 0; kept = []; missed = 0; parts = 0; halvings = 0 }

  -- the two views that a split makes: each has half the share, and the second has no number
  abbrev pub first_half : View E → View E
  first_half v = record { seen = v.seen; holds = v.holds; number = v.number; gone = v.gone; next = v.next; loaded = v.loaded; kept = v.kept; missed = v.missed; parts = v.parts; halvings = v.halvings + 1 }

  abbrev pub second_half : View E → View E
  second_half v = record { seen = v.seen; holds = false; number = 0; gone = []; next = 0; loaded = v.loaded; kept = []; missed = 0; parts = v.parts; halvings = v.halvings + 1 }

  -- the view that the next number is handed to, and the one that handed it out
  abbrev pub numbered : View E → View E
  numbered v = record { seen = v.seen; holds = false; number = v.next; gone = []; next = 0; loaded = 0; kept = []; missed = 0; parts = 1; halvings = 0 }

  abbrev pub handing : View E → View E
  handing v = record { seen = v.seen; holds = v.holds; number = v.number; gone = v.gone; next = v.next + 1; loaded = v.loaded; kept = v.kept; missed = v.missed; parts = v.parts - 1; halvings = v.halvings }

  abbrev pub longer : List E → List E → List E
  longer xs ys = if nat_lt (length xs) (length ys) then ys else xs

  -- two views put together, of which neither has the turn. Both lists are kept until the next load
  abbrev pub joining : View E → View E → View E
  joining v w = record {
    seen = longer v.seen w.seen;
    holds = false;
    number = v.number;
    gone = v.gone ++ numbers_of w;
    next = v.next;
    loaded = max v.loaded w.loaded;
    kept = (numbers_of v, v.seen) ∷ (numbers_of w, w.seen) ∷ [];
    missed = v.missed + w.missed;
    parts = v.parts * 2 ^ (max v.halvings w.halvings - v.halvings) + w.parts * 2 ^ (max v.halvings w.halvings - w.halvings);
    halvings = max v.halvings w.halvings;
  }

  -- a claim that found the turn at home, with the list xs
  abbrev pub taking : View E → List E → View E
  taking v xs = record { seen = xs; holds = true; number = v.number; gone = v.gone; next = v.next; loaded = v.loaded; kept = v.kept; missed = v.missed; parts = v.parts; halvings = v.halvings }

  -- a claim that found the turn out
  abbrev pub missing : View E → View E
  missing v = record { seen = v.seen; holds = v.holds; number = v.number; gone = v.gone; next = v.next; loaded = v.loaded; kept = v.kept; missed = v.missed + 1; parts = v.parts; halvings = v.halvings }

  -- the list seen is now xs
  abbrev pub seeing : View E → List E → View E
  seeing v xs = record { seen = xs; holds = v.holds; number = v.number; gone = v.gone; next = v.next; loaded = v.loaded; kept = v.kept; missed = v.missed; parts = v.parts; halvings = v.halvings }

  -- the turn is given back
  abbrev pub leaving : View E → View E
  leaving v = record { seen = v.seen; holds = false; number = v.number; gone = v.gone; next = v.next; loaded = v.loaded; kept = v.kept; missed = v.missed; parts = v.parts; halvings = v.halvings }

  -- the count n was loaded, and what was kept is compared
  abbrev pub loading : View E → ℕ → View E
  loading v n = record { seen = v.seen; holds = v.holds; number = v.number; gone = v.gone; next = v.next; loaded = max v.loaded n; kept = []; missed = v.missed; parts = v.parts; halvings = v.halvings }
