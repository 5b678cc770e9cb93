-- What the rules leave shows what was drawn. Assumes nothing.
use Rattle.std.proofs.Common.{◌≡◌, ◌*◌, List, ◌++◌, length, take, drop, replicate, Some, sym, ap, ◌∙◌, subst}
use Rattle.std.specs.List.{slice_get}
use Rattle.monoid.specs.PathTags.{Counts, none}
use Rattle.monoid.specs.Packing.{blank}
use Rattle.monoid.specs.Clips.{bic}
use Rattle.monoid.proofs.Packs.{plus_laws, packed-counts, blanks_after}
use Rattle.encoding.specs.Sheet.{Sheet}
use Rattle.replay.specs.Calls.{Made, Ruled}
use Rattle.replay.specs.Log.{Log, logged}
use Rattle.replay.specs.Wanted.{counted, clipped, drawn_total, Shown, Totals, Segments, Drawing, RulesShow}
use Rattle.replay.proofs.Only.{one_ruled}
use Rattle.replay.proofs.Clips.{stack-depth}
use Rattle.replay.proofs.Drawings.{tags_of, words-total, words-at, EndsAt}
use Rattle.replay.proofs.Shown.{total, reads_kept, reads-each, Reads}
use Rattle.replay.proofs.Kept.{store, KeptAt, kept}

totals : (xs : List Made) (s : Sheet) (l : Log) → Ruled xs s → KeptAt s l → Totals xs s
totals xs s l r h =
    let c = h.counted in
    record {
      as_ruled = r;
      only = λ q ruled. one_ruled xs q s ruled r;
      reduce = λ zeros.
          packed-counts (s.tags.entries ++ replicate zeros blank)
          ∙ blanks_after s.tags.entries zeros
          ∙ h.outlined.totals
          ∙ (λ i. record { transforms = sym c.transforms i; segments = s.outlines.segments; words = sym c.words i; styles = 2 * sym c.styles i; paths = s.outlines.paths });
    }

segments : (s : Sheet) (l : Log) → KeptAt s l → Segments l s
segments s l h =
    let read = h.outlined.reads in
    record {
      in_order = reads_kept (store s) none s.tags.entries l.segments read;
      each = λ before t later e is.
          let found = reads-each (store s) none before t later l.segments is (subst (λ ts. Reads (store s) none ts l.segments) e read) in
          let same : total before ≡ counted before = sym (packed-counts before) in
          (found.0, subst (λ (c : Counts). slice_get l.segments c.segments ≡ Some found.0) same found.1, subst (λ c. Shown s c t found.0) (plus_laws.left (total before) ∙ same) found.2);
    }

drawing : (s : Sheet) (l : Log) → KeptAt s l → Drawing l.commands s
drawing s l h =
    let d = h.drew.drawings in
    let c = l.commands in
    record {
      in_order = d.tags;
      words = ap (λ ts. (drawn_total ts).words) d.tags ∙ words-total c.entries d.right.sized ∙ sym (ap length d.words) ∙ sym h.drew.words;
      clips = d.clip_count;
      depth = ap clipped d.tags ∙ stack-depth (tags_of c.entries) c.begun d.right.stack ∙ ap (bic 0) (sym d.depth);
      each = λ k x n.
          let at = words-at c.entries k x d.right.sized n in
          (at.0, ap (take (length x.words)) (λ i. drop (drawn_total (take k (d.tags i))).words (d.words i)) ∙ at.1);
      ends = λ k x n e. subst (λ ts. EndsAt ts x k) (sym d.tags) (d.right.ends k x n e);
    }

pub rules_show : RulesShow
rules_show xs s r closed =
    let h = (kept xs s r).here in
    record { totals = totals xs s (logged xs) r h; segments = segments s (logged xs) h; drawing = drawing s (logged xs) h }
