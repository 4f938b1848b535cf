-- What an open log knows, in the words of its callers.
use Rattle.std.proofs.Common.{◌≡◌, ◌≤◌, ◌<◌, ◌^◌, ℕ, Bool, true, List, length, Some, None, Option, refl, ap, subst, ◌∙◌, arith}
use Rattle.std.specs.Option.{IsSome}
use Rattle.kb_log.specs.Images.{EachImage, HasList}
use Rattle.kb_log.specs.LogList.{list_of, used_of, area_size}
use Rattle.kb_log.specs.State.{LogState, IsSettled, payloads_of}
use Rattle.kb_log.specs.declared.area.Area.{Area}
use Rattle.kb_log.proofs.Append.{shown, used_fits}
use Rattle.kb_log.proofs.Resettled.{settled, image_list}

some_is : {A : Type 0} (o : Option A) (x : A) → o ≡ Some x → IsSome o
some_is None x e = absurd cc
some_is (Some y) x e = refl

module _ {D : Type 0} (content : D → List ℕ) (dirty : D → ℕ → Bool) (disk : D) (area : Area) (opened : Bool) (log : LogState D) (is : record { disk = disk; payloads = payloads_of area.text.items; is_open = opened } ≡ log)
    (known : opened ≡ true → IsSettled (content disk) (dirty disk) area) (open_now : log.is_open ≡ true) where
  s : IsSettled (content disk) (dirty disk) area
  s = known (ap (λ (l : LogState D). l.is_open) is ∙ open_now)

  pub size_seen : area.size ≡ area_size (length (content log.disk))
  size_seen = s.size ∙ ap (λ (l : LogState D). area_size (length (content l.disk))) is

  pub used_seen : length area.text.items ≡ used_of log.payloads
  used_seen = s.used ∙ ap (λ (l : LogState D). used_of l.payloads) is

  pub used_within : length area.text.items ≤ area.size
  used_within = omega (arith, s.size, used_fits (content disk) (payloads_of area.text.items) area.start area.text.items (settled (content disk) (dirty disk) area s))

  pub size_small : area.size < 2 ^ 24
  size_small = omega (arith, s.size, s.low, s.high)

  pub images_seen : EachImage content dirty log.disk (HasList log.payloads)
  images_seen = subst (λ (l : LogState D). EachImage content dirty l.disk (HasList l.payloads)) is (λ image may. image_list (content disk) image (dirty disk) (payloads_of area.text.items) may s.clean s.list)

  pub text_shown : (text : List ℕ) → text ≡ area.text.items → IsSome (list_of text)
  text_shown text same = some_is (list_of text) (payloads_of area.text.items) (ap list_of same ∙ shown (content disk) (payloads_of area.text.items) area.start area.text.items (settled (content disk) (dirty disk) area s))
