-- How a value that stands for a plain state goes on.

-- whatever plain state the old value stands for, the new one stands for one to which the step leads
abbrev pub Goes : {V S : Type 0} → (V → S → Type 0) → V → V → (S → S → Type 0) → Type 0
Goes {V} {S} stands old new step = (s : S) → stands old s → (t : S) × step s t × stands new t

-- the new value stands for each plain state that the old one stands for
abbrev pub Stays : {V S : Type 0} → (V → S → Type 0) → V → V → Type 0
Stays {V} {S} stands old new = (s : S) → stands old s → stands new s
