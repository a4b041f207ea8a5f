-- What a writer of bits does.
use Rattle.std.specs.Prelude.{◌≡◌, ◌+◌, ◌*◌, ◌^◌, ◌<◌, ◌≤◌, List, length}
use Rattle.layout.specs.Layout.{Field, size}
use Rattle.writer.specs.declared.fields.BitWriter.{BitWriter}
use Rattle.writer.specs.Putting.{Puts}

-- the bytes of s have room for these fields from where it stands
pub record HasRoom (s : BitWriter) (fs : List Field) : Type 0 where
  pub inside : s.at + size fs ≤ 8 * length s.out.now
  pub early : s.at + size fs < 2 ^ 32

-- s puts these fields and becomes t, which stands after them, over the same bytes
pub record Adds (s t : BitWriter) (fs : List Field) : Type 0 where
  pub loan : t.out.ghost_name ≡ s.out.ghost_name
  pub long : length t.out.now ≡ length s.out.now
  pub place : t.at ≡ s.at + size fs
  pub fields : Puts s.out.now t.out.now s.at fs
