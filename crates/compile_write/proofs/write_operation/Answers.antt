-- `compile_write::write_operation` meets its contract. Assumes nothing.
use Rattle.std.proofs.Common.{◌∙◌, arith}
use Rattle.compile_write.proofs.WriteLaws.{appended_row}
use Rattle.compile_write.proofs.write_operation.Goals as goal

pub entry_width-width-requires : goal.entry_width-width-requires
entry_width-width-requires c =
    let a = c.args in
    let bits = a.layout.width in
    record {
      symbol_lt_max_symbols = (c.requires.symbol_lt_max_symbols, a.layout.columns);
      le_s = (omega (arith, bits.least), omega (arith, bits.most));
      small_range = rw (c.append_form.ensures, appended_row a.forms.now a.layout.n a.o a.symbol a.layout.columns c.requires.symbol_lt_max_symbols c.requires.forms_len.0) c.requires.small_forms.1;
    }

pub returns-clause-buffer_after : goal.returns-clause-buffer_after
returns-clause-buffer_after c =
    let a = c.args in
    c.write_operation.ensures
    ∙ rw (c.entry_width-width.ensures, c.append_form.ensures, appended_row a.forms.now a.layout.n a.o a.symbol a.layout.columns c.requires.symbol_lt_max_symbols c.requires.forms_len.0)
