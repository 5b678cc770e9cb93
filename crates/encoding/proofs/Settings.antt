-- A transform or a style that is written or declined, over the sheet. Assumes nothing.
use Rattle.std.proofs.Common.{◌≡◌, Bool, true, false, cond, length, Some, None, Ok, Err, Option, Result, sym, refl, ap, ◌∙◌}
use Rattle.values.specs.declared.transform.Transform.{Transform}
use Rattle.values.specs.declared.style.Style.{Style}
use Rattle.values.specs.declared.error.Stream.TheVariants.{Transforms, Styles}
use Rattle.values.specs.declared.error.EncodeError.{EncodeError}
use Rattle.values.specs.declared.error.EncodeError.TheVariants.{NotFinite}
use Rattle.values.specs.Errors.{short, full, unless, or_else, told}
use Rattle.values.specs.Settings.{same_transform, same_style, finite_transform}
use Rattle.encoding.specs.declared.encoding.Encoding.{Encoding}
use Rattle.encoding.specs.Tags.{transform_tag, style_tag}
use Rattle.encoding.specs.Sheet.{Sheet, Streams, sheet, with_transform, with_style}
use Rattle.encoding.specs.Promises.{Answered, rooms, reason, left_by}
use Rattle.encoding.specs.Rules.{transform_rule, new_transform, style_rule, set_style, new_style, error_in}
use Rattle.encoding.proofs.Listing.{by_refusal}
use Rattle.encoding.specs.Inner.{Place, SetAs, set_at, set_by, set_reason}

through : {A B : Type 0} (f : A → B) (b : Bool) (x y : A) → f (cond b x y) ≡ cond b (f x) (f y)
through f true x y = refl
through f false x y = refl

-- a part that is left as it was or changed, put into what it is part of
put_left : {P S : Type 0} (put : P → S) (w : Option EncodeError) (p q : P) → put (left_by w p q) ≡ left_by w (put p) (put q)
put_left put None p q = refl
put_left put (Some e) p q = refl

-- declined at last, it neither answers nor changes
told_late : {V : Type 0} (w : Option EncodeError) (e : EncodeError) (v v₂ : V) → told (or_else w (Some e)) v ≡ told (or_else w (Some e)) v₂
told_late None e v v₂ = refl
told_late (Some d) e v v₂ = refl

left_late : {S : Type 0} (w : Option EncodeError) (e : EncodeError) (s n n₂ : S) → left_by (or_else w (Some e)) s n ≡ left_by (or_else w (Some e)) s n₂
left_late None e s n n₂ = refl
left_late (Some d) e s n n₂ = refl

-- a transform

module _ (t : Transform) (e : Encoding) (m : Streams) where
  abbrev s : Sheet
  s = sheet e m

  abbrev here : Place Transform
  here = record { tags = s.tags; settings = s.transforms }

  abbrev put : Place Transform → Sheet
  put p = with_transform p.tags p.settings s

  abbrev next : Sheet
  next = (transform_rule t).next s

  put_next : put (set_by same_transform transform_tag (Ok t) here) ≡ next
  put_next = through put (new_transform t s) (set_at transform_tag t here) here

  abbrev why : Bool → Option EncodeError
  why finite = or_else (short (rooms (transform_rule t).on s m)) (or_else (unless finite NotFinite) (full (rooms (transform_rule t).on next m)))

  abbrev Set : Bool → Result Bool EncodeError → Place Transform → Type 0
  Set finite r p = SetAs same_transform Transforms transform_tag (length m.path_tags) (length m.transforms) (told (unless finite NotFinite) t) here r p

  by_finite : (finite : Bool) (r : Result Bool EncodeError) (p : Place Transform) → Set finite r p → (r ≡ told (why finite) (new_transform t s)) × (put p ≡ left_by (why finite) s next)
  by_finite true r p a =
      let moved : Place Transform = set_by same_transform transform_tag (Ok t) here in
      let same : set_reason same_transform Transforms transform_tag (length m.path_tags) (length m.transforms) (Ok t) here ≡ why true =
      λ i. or_else (short (rooms (transform_rule t).on s m)) (full (rooms (transform_rule t).on (put_next i) m)) in (
        a.says ∙ ap (λ w. told w (new_transform t s)) same,
        ap put a.leaves
            ∙ put_left put (set_reason same_transform Transforms transform_tag (length m.path_tags) (length m.transforms) (Ok t) here) here moved
            ∙ λ i. left_by (same i) s (put_next i),
      )
  by_finite false r p a =
      let w = short (rooms (transform_rule t).on s m) in (
        a.says ∙ told_late w NotFinite false (new_transform t s),
        ap put a.leaves ∙ put_left put (or_else w (Some NotFinite)) here here ∙ left_late w NotFinite s s next,
      )

  pub transform_set : (r : Result Bool EncodeError) (p : Place Transform) → Set (finite_transform t) r p → Answered (transform_rule t) s m r (put p)
  transform_set r p a = let both = by_finite (finite_transform t) r p a in record { says = both.0; leaves = both.1 }

-- a style

module _ (made : Result Style EncodeError) (e : Encoding) (m : Streams) where
  abbrev s₂ : Sheet
  s₂ = sheet e m

  abbrev here₂ : Place Style
  here₂ = record { tags = s₂.tags; settings = s₂.styles }

  abbrev put₂ : Place Style → Sheet
  put₂ p = with_style p.tags p.settings s₂

  put-style : (x : Result Style EncodeError) → put₂ (set_by same_style style_tag x here₂) ≡ set_style x s₂
  put-style (Ok x) = through put₂ (new_style x s₂) (set_at style_tag x here₂) here₂
  put-style (Err x) = refl

  pub style_reason : {V : Type 0} (v : V) → set_reason same_style Styles style_tag (length m.path_tags) (length m.styles) made here₂ ≡ reason (style_rule v made) s₂ m
  style_reason v = λ i. or_else (short (rooms (style_rule v made).on s₂ m)) (or_else (error_in made) (full (rooms (style_rule v made).on (put-style made i) m)))

  -- declined, the call that it belongs to declines
  pub style_declined : {V : Type 0} (v : V) (d : EncodeError) (p : Place Style) → SetAs same_style Styles style_tag (length m.path_tags) (length m.styles) made here₂ (Err d) p → Answered (style_rule v made) s₂ m (Err d) (put₂ p)
  style_declined v d p a =
      let w = set_reason same_style Styles style_tag (length m.path_tags) (length m.styles) made here₂ in
      let why : w ≡ Some d = by_refusal w _ d a.says in
      let is : reason (style_rule v made) s₂ m ≡ Some d = sym (style_reason v) ∙ why in
      record {
        says = ap (λ o. told o v) (sym is);
        leaves = ap put₂ (a.leaves ∙ ap (λ o. left_by o here₂ (set_by same_style style_tag made here₂)) why) ∙ ap (λ o. left_by o s₂ (set_style made s₂)) (sym is);
      }
