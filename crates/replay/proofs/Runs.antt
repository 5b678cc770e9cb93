-- A run leaves what the rules leave. Assumes nothing.
use Rattle.std.proofs.Common.{◌≡◌, ℕ, Bool, true, false, List, take, drop, Some, None, Ok, Err, Option, Result, sym, refl, ap, ◌∙◌, subst, arith}
use Rattle.std.proofs.lemmas.Bool.{false≢true}
use Rattle.values.specs.declared.element.PathEl.{PathEl}
use Rattle.values.specs.declared.element.ElementError.{ElementError}
use Rattle.values.specs.declared.error.EncodeError.{EncodeError}
use Rattle.values.specs.Errors.{short, full, or_else}
use Rattle.encoding.specs.Sheet.{Streams, Opened, Sheet, first, sheet}
use Rattle.encoding.specs.Promises.{Rule, Answered, rooms}
use Rattle.encoding.specs.Paths.{path_opened}
use Rattle.encoding.specs.Elements.{Listed, list_reason, list_told, list_leaves, list_next}
use Rattle.encoding.proofs.Listing.{took, refused}
use Rattle.replay.specs.declared.calls.Answer.{Answer}
use Rattle.replay.specs.declared.calls.Answer.TheVariants.{Said, Counted}
use Rattle.replay.specs.declared.calls.Plan.{Plan}
use Rattle.replay.specs.declared.calls.Plan.TheVariants.{Closed, Open}
use Rattle.replay.specs.Calls.{Call, Takes, Made, taken, FromRest, FromPath, Leaves, Ruled, RuledBy}
use Rattle.replay.specs.Calls.Chosen.{Filled, Stroked}
use Rattle.replay.specs.Calls.Command.{Color, Blurred, BeginClip, EndClip}
use Rattle.replay.specs.Calls.Call.{Reset, ForceNext, SetTransform, SetStyle, Draw, EmptyShape, Elements, OpenPath, Take, Finish, Abandon}
use Rattle.replay.specs.Runs.{shown, answer_of, list_answer, done, Told, Plainly, PassedOver, StepAtRest, StepInPath, StepBy, Run, RunsShow}
use Rattle.replay.specs.Runs.Run.{begun, brought, accepted, declined}
use Rattle.replay.proofs.Theorem.{rules_show}

never : {P : Type 0} → false ≡ true → P
never bad = absurd (false≢true bad)

-- a call of a rule

own-none : (a b c : Option EncodeError) → or_else a (or_else b c) ≡ None → b ≡ None
own-none None None c h = refl
own-none None (Some e) c h = let z : ◌≡◌ {A = ℕ} 0 1 = cc in absurd (omega arith)
own-none (Some e) b c h = let z : ◌≡◌ {A = ℕ} 0 1 = cc in absurd (omega arith)

module _ {V : Type 0} (say : V → Answer) (k : Rule V) (s : Sheet) (m : Streams) (s' : Sheet) where
  by_result : (r : Result V EncodeError) → Answered k s m r s' → taken (answer_of say r) ≡ true → Takes k s s'
  by_result (Ok v) a t =
      let h = took k s m v s' a in
      (own-none (short (rooms k.on s m)) (k.own s) (full (rooms k.on (k.next s) m)) h.0, h.1)
  by_result (Err e) a t = never t

  told-takes : (a : Answer) → Told say k s m a s' → taken a ≡ true → Takes k s s'
  told-takes a h t = by_result h.0 h.2 (ap taken (sym h.1) ∙ t)

  stays_by : ((v : V) → taken (say v) ≡ true) → (r : Result V EncodeError) → Answered k s m r s' → taken (answer_of say r) ≡ false → s' ≡ s
  stays_by good (Ok v) a t = never (sym t ∙ good v)
  stays_by good (Err e) a t = (refused k s m e s' a).1

  told-stays : ((v : V) → taken (say v) ≡ true) → (a : Answer) → Told say k s m a s' → taken a ≡ false → s' ≡ s
  told-stays good a h t = stays_by good h.0 h.2 (ap taken (sym h.1) ∙ t)

module _ (xs : List PathEl) (fill : Bool) (s : Sheet) (m : Streams) (s' : Sheet) where
  list-by : (o : Option ElementError) (b c : Bool) → Ok c ≡ list_told o b → o ≡ None
  list-by None b c h = refl
  list-by (Some e) b c h = let z : ◌≡◌ {A = ℕ} 0 1 = cc in absurd (omega arith)

  list-not : (o : Option ElementError) (b : Bool) (e : ElementError) → Err e ≡ list_told o b → o ≡ Some e
  list-not None b e h = let z : ◌≡◌ {A = ℕ} 0 1 = cc in absurd (omega arith)
  list-not (Some x) b e h = cc

  list-takes : (r : Result Bool ElementError) → Listed xs fill s m r s' → taken (list_answer r) ≡ true → s' ≡ list_next xs fill s
  list-takes (Ok b) h t = h.leaves ∙ ap (λ o. list_leaves o s (list_next xs fill s)) (list-by (list_reason xs 0 (path_opened fill s) m) _ b h.says)
  list-takes (Err e) h t = never t

  list-stays : (r : Result Bool ElementError) → Listed xs fill s m r s' → taken (list_answer r) ≡ false → s' ≡ s
  list-stays (Ok b) h t = never (sym t)
  list-stays (Err e) h t = h.leaves ∙ ap (λ o. list_leaves o s (list_next xs fill s)) (list-not (list_reason xs 0 (path_opened fill s) m) _ e h.says)

said : (b : Bool) → taken (Said b) ≡ true
said b = refl

-- an accepted call leaves what its rule leaves

module _ (s : Sheet) (m : Streams) (a : Answer) (s' : Sheet) (t : taken a ≡ true) where
  passed : {P : Type 0} → PassedOver s a s' → P
  passed h = never (ap taken (sym h.0) ∙ t)

  leaves-at-rest : (c : Call) → StepAtRest c s m a s' → FromRest c s s'
  leaves-at-rest Reset h = h.1
  leaves-at-rest ForceNext h = h.1
  leaves-at-rest (SetTransform x) h = told-takes Said _ s m s' a h t
  leaves-at-rest (SetStyle (Filled f)) h = told-takes done _ s m s' a h t
  leaves-at-rest (SetStyle (Stroked k)) h = (h.0, h.1, told-takes Said _ s m s' a h.2 t)
  leaves-at-rest (Draw (Color c)) h = told-takes done _ s m s' a h t
  leaves-at-rest (Draw (Blurred c w ht r d)) h = told-takes done _ s m s' a h t
  leaves-at-rest (Draw (BeginClip x y z)) h = told-takes done _ s m s' a h t
  leaves-at-rest (Draw EndClip) h = told-takes done _ s m s' a h t
  leaves-at-rest EmptyShape h = told-takes done _ s m s' a h t
  leaves-at-rest (Elements xs fill) h = list-takes xs fill s m s' h.0 h.2 (ap taken (sym h.1) ∙ t)
  leaves-at-rest (OpenPath fill) h = h.1
  leaves-at-rest (Take x) h = passed h
  leaves-at-rest (Finish mark) h = passed h
  leaves-at-rest Abandon h = passed h

  leaves-in-path : (c : Call) → StepInPath c s m a s' → FromPath c s s'
  leaves-in-path (Take x) h = told-takes done _ s m s' a h t
  leaves-in-path (Finish mark) h = told-takes Counted _ s m s' a h t
  leaves-in-path Abandon h = h.1
  leaves-in-path Reset h = passed h
  leaves-in-path ForceNext h = passed h
  leaves-in-path (SetTransform x) h = passed h
  leaves-in-path (SetStyle x) h = passed h
  leaves-in-path (Draw c) h = passed h
  leaves-in-path EmptyShape h = passed h
  leaves-in-path (Elements xs fill) h = passed h
  leaves-in-path (OpenPath fill) h = passed h

leaves : (c : Call) (h : Plan) (m : Streams) (a : Answer) (s' : Sheet) → taken a ≡ true → StepBy h c (shown h m) m a s' → Leaves c (shown h m) s'
leaves c (Closed e) m a s' t st = leaves-at-rest (sheet e m) m a s' t c st
leaves c (Open p) m a s' t st = leaves-in-path (shown (Open p) m) m a s' t c st

-- and a declined one what was there

module _ (s : Sheet) (m : Streams) (a : Answer) (s' : Sheet) (t : taken a ≡ false) where
  plain : {next : Sheet} → Plainly a s' next → s' ≡ s
  plain h = never (sym t ∙ ap taken h.0)

  stays-at-rest : (c : Call) → StepAtRest c s m a s' → s' ≡ s
  stays-at-rest Reset h = plain h
  stays-at-rest ForceNext h = plain h
  stays-at-rest (SetTransform x) h = told-stays Said _ s m s' said a h t
  stays-at-rest (SetStyle (Filled f)) h = told-stays done _ s m s' (λ v. refl) a h t
  stays-at-rest (SetStyle (Stroked k)) h = told-stays Said _ s m s' said a h.2 t
  stays-at-rest (Draw (Color c)) h = told-stays done _ s m s' (λ v. refl) a h t
  stays-at-rest (Draw (Blurred c w ht r d)) h = told-stays done _ s m s' (λ v. refl) a h t
  stays-at-rest (Draw (BeginClip x y z)) h = told-stays done _ s m s' (λ v. refl) a h t
  stays-at-rest (Draw EndClip) h = told-stays done _ s m s' (λ v. refl) a h t
  stays-at-rest EmptyShape h = told-stays done _ s m s' (λ v. refl) a h t
  stays-at-rest (Elements xs fill) h = list-stays xs fill s m s' h.0 h.2 (ap taken (sym h.1) ∙ t)
  stays-at-rest (OpenPath fill) h = plain h
  stays-at-rest (Take x) h = h.1
  stays-at-rest (Finish mark) h = h.1
  stays-at-rest Abandon h = h.1

  stays-in-path : (c : Call) → StepInPath c s m a s' → s' ≡ s
  stays-in-path (Take x) h = told-stays done _ s m s' (λ v. refl) a h t
  stays-in-path (Finish mark) h = told-stays Counted _ s m s' (λ v. refl) a h t
  stays-in-path Abandon h = plain h
  stays-in-path Reset h = h.1
  stays-in-path ForceNext h = h.1
  stays-in-path (SetTransform x) h = h.1
  stays-in-path (SetStyle x) h = h.1
  stays-in-path (Draw c) h = h.1
  stays-in-path EmptyShape h = h.1
  stays-in-path (Elements xs fill) h = h.1
  stays-in-path (OpenPath fill) h = h.1

pub stays : (c : Call) (h : Plan) (m : Streams) (a : Answer) (s' : Sheet) → taken a ≡ false → StepBy h c (shown h m) m a s' → s' ≡ shown h m
stays c (Closed e) m a s' t st = stays-at-rest (sheet e m) m a s' t c st
stays c (Open p) m a s' t st = stays-in-path (shown (Open p) m) m a s' t c st

-- the numbers of a sheet, over other streams

abbrev reopened : Sheet → Streams → Option Opened → Option Opened
reopened s m None = None
reopened s m (Some o) = Some (record {
  path = record {
    state = o.path.state;
    moved = o.path.moved;
    fill = o.path.fill;
    first = o.path.first;
    tangent = o.path.tangent;
    own = record { tags = take o.tags (drop s.tags.count m.path_tags); words = take o.words (drop s.outlines.words.count m.path_data) };
  };
  tags = o.tags;
  words = o.words;
})

abbrev recounted : Sheet → Streams → Sheet
recounted s m = record {
  tags = first s.tags.count m.path_tags;
  outlines = record { words = first s.outlines.words.count m.path_data; paths = s.outlines.paths; segments = s.outlines.segments };
  transforms = record { written = first s.transforms.written.count m.transforms; forced = s.transforms.forced };
  styles = record { written = first s.styles.written.count m.styles; forced = s.styles.forced };
  drawn = record { tags = first s.drawn.tags.count m.draw_tags; words = first s.drawn.words.count m.draw_data; clips = s.drawn.clips; open_clips = s.drawn.open_clips };
  open_path = reopened s m s.open_path;
}

recount : (h : Plan) (m left : Streams) → recounted (shown h m) left ≡ shown h left
recount (Closed e) m left = refl
recount (Open p) m left = refl

-- a plan that stands for the same over some streams stands for the same over any
pub same_over : (h h' : Plan) (m m' left : Streams) → shown h' m' ≡ shown h m → shown h' left ≡ shown h left
same_over h h' m m' left e = sym (recount h' m' left) ∙ ap (λ s. recounted s left) e ∙ recount h m left

ruled : {xs : List Made} {h : Plan} {m : Streams} → Run xs h m → Ruled xs (shown h m)
ruled (begun e left h) = h left
ruled (brought {xs = xs} m r same) = subst (Ruled xs) (sym same) (ruled r)
ruled (accepted {xs = xs} {h = h} {m = m} c a h' m' r t st) = subst (λ b. RuledBy b c (Ruled xs) (shown h' m')) (sym t) (shown h m, ruled r, leaves c h m a (shown h' m') t st)
ruled (declined {xs = xs} {h = h} {left = left} c m a h' m' r t st) =
    subst (λ b. RuledBy b c (Ruled xs) (shown h' left)) (sym t) (subst (Ruled xs) (sym (same_over h h' m m' left (stays c h m a (shown h' m') t st))) (ruled r))

pub runs_show : RunsShow
runs_show xs e m r = rules_show xs (sheet e m) (ruled r) refl
