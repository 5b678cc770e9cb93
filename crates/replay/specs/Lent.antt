-- The streams that a list of calls is lent. Assumes nothing.
use Rattle.std.specs.Prelude.{◌≡◌}
use Rattle.encoding.specs.Sheet.{Streams}
use Rattle.replay.specs.declared.replay.Streams as Lent
use Rattle.replay.specs.Meant.{six}

-- what is found in them
abbrev pub held : Lent.Streams → Streams
held s = six s.path_tags.now s.path_data.now s.draw_tags.now s.draw_data.now s.transforms.now s.styles.now

-- each is still the stream that was lent
abbrev pub SameStreams : Lent.Streams → Lent.Streams → Type 0
SameStreams s t = (t.path_tags.ghost_name ≡ s.path_tags.ghost_name)
    × (t.path_data.ghost_name ≡ s.path_data.ghost_name)
    × (t.draw_tags.ghost_name ≡ s.draw_tags.ghost_name)
    × (t.draw_data.ghost_name ≡ s.draw_data.ghost_name)
    × (t.transforms.ghost_name ≡ s.transforms.ghost_name)
    × (t.styles.ghost_name ≡ s.styles.ghost_name)
